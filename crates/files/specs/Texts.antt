-- Files that are read as one text: rules, and names. Assumes nothing.
use Rattle.std.specs.Prelude.{◌≡◌, ℕ, ◌*◌, ◌≤◌, cond, List, ◌++◌, length, take, ◌==◌, Err, None, Ok, Option, Result, Some}
use Rattle.paper.specs.declared.Refusal.{Refusal}
use Rattle.paper.specs.declared.Refusal.TheVariants as refusal
use Rattle.paper.specs.Answers.{Answer}
use Rattle.text.specs.Digits.{digits}
use Rattle.text.specs.Quoted.{bytes}
use Rattle.rulefile.specs.Files.{read_into}
use Rattle.naming.specs.declared.lines.Fault.{Fault}
use Rattle.naming.specs.declared.lines.Fault.TheVariants as fault
use Rattle.naming.specs.Names as Names
use Rattle.files.specs.declared.listing.RulesFault.{RulesFault}
use Rattle.files.specs.declared.listing.RulesFault.TheVariants as rules_fault
use Rattle.files.specs.declared.problems.Problem.{Problem}

-- the bytes of a text stand in the lent list
pub record Inside (answer : Result ℕ Problem) (left : List ℕ) : Type 0 where
  pub few : (n : ℕ) → answer ≡ Ok n → n ≤ length left

-- ---- rules

-- no file is asked for; nothing that can be read; or a text
pub data Text : Type 0 where
  unasked : Text
  unread : Text
  holds : List ℕ → Text

-- what comes of a refusal: rules that are refused with 2, or none
unfoldable pub refused_as : Refusal → RulesFault
refused_as refusal.BadRules = rules_fault.Refused
refused_as why = rules_fault.NotRead

-- how many numbers the rules of a text have, eight each, and the lent list then
abbrev pub rules_as : Answer ℕ × List ℕ → Result ℕ RulesFault × List ℕ
rules_as (Ok k, left) = (Ok (k * 8), left)
rules_as (Err why, left) = (Err (refused_as why), left)

-- a text gives these rules and leaves these numbers
pub record Gives (s rules : List ℕ) (answer : Result ℕ RulesFault) (left : List ℕ) : Type 0 where
  pub same : (answer, left) ≡ rules_as (read_into s rules)

abbrev pub rules_of : Text → List ℕ → Result ℕ RulesFault × List ℕ
rules_of unasked rules = (Ok 0, rules)
rules_of unread rules = (Err rules_fault.NotRead, rules)
rules_of (holds s) rules = rules_as (read_into s rules)

-- some text gives these rules and leaves these numbers
pub record ReadsRules (rules : List ℕ) (answer : Result ℕ RulesFault) (left : List ℕ) : Type 0 where
  pub text : Text
  pub same : (answer, left) ≡ rules_of text rules

-- ---- names

-- the bytes of a text that is a file of names
abbrev pub names_of : ℕ → Result (Unit {0}) (ℕ × Fault) → Option ℕ
names_of n (Ok u) = Some n
names_of n (Err at) = None

abbrev pub names_as : ℕ → List ℕ → Option ℕ
names_as n text = names_of n (Names.checked (take n text))

-- no file is asked for; nothing can be read; or what stands at the front of the lent list is judged
pub data ReadsNames (answer : Option ℕ) (left : List ℕ) : Type 0 where
  no_names : answer ≡ Some 0 → ReadsNames answer left
  none : answer ≡ None → ReadsNames answer left
  some : (n : ℕ) → n ≤ length left → answer ≡ names_as n left → ReadsNames answer left

-- ---- what is wrong with a line

-- a control character by its name, or by its number
unfoldable pub control_text : ℕ → List ℕ
control_text b = cond (b == 13) (bytes "a carriage return: a line ends in LF alone") (cond (b == 9) (bytes "a tab") (bytes "byte " ++ digits b))

unfoldable pub name_fault_text : Fault → List ℕ
name_fault_text fault.Mark = bytes "expected NUMBER=TEXT: the file begins with a byte order mark\n"
name_fault_text fault.Form = bytes "expected NUMBER=TEXT\n"
name_fault_text fault.NotGreater = bytes "expected a number greater than the one before\n"
name_fault_text fault.NoText = bytes "expected NUMBER=TEXT: the text is empty\n"
name_fault_text fault.NotUtf8 = bytes "expected a text in UTF-8\n"
name_fault_text (fault.Control b) = bytes "expected a text without control characters, found " ++ (control_text b ++ bytes "\n")
name_fault_text fault.NoFeed = bytes "expected NUMBER=TEXT: the file's last line has no line feed\n"
