-- What is claimed of rule files, over all texts and all lists of rules. Assumes nothing.
use Rattle.std.specs.Prelude.{ℕ, ◌≤◌, ◌≡◌, true, List, length, Err, Ok}
use Rattle.paper.specs.Answers.{Answer}
use Rattle.paper.specs.declared.Refusal.{Refusal}
use Rattle.paper.specs.declared.Refusal.TheVariants.{OutOfForm}
use Rattle.keyed.specs.Forms.{OutAt}
use Rattle.rules.specs.declared.Rule.{Rule}
use Rattle.rules.specs.Rules.{rules_of}
use Rattle.rulefile.specs.Rules.{rules_text, flat, Small}
use Rattle.rulefile.specs.Files.{rule_form, file_lines, rules_read, file_written, read_into, write_into}

-- a text is the file of some rules whose numbers are at most 65,535
pub record FileOf (rs : List Rule) (s : List ℕ) : Type 0 where
  pub small : Small (flat rs)
  pub same : s ≡ rules_text rs

-- a text is in form, and the rules that it then reads to
abbrev pub InForm : List ℕ → Type 0
InForm s = (file_lines s).whole ≡ true

abbrev pub rules_in : List ℕ → List Rule
rules_in s = rules_of (file_lines s).numbers

pub record RuleFiles : Type 0 where
  -- a text is in form exactly if it is the file of some rules, and these are the rules that it reads to
  pub form_file : (s : List ℕ) → InForm s → FileOf (rules_in s) s
  pub file_form : (rs : List Rule) (s : List ℕ) → FileOf rs s → InForm s × ((file_lines s).numbers ≡ flat rs)
  -- rules come from one text alone: where two in form have the same, no byte differs
  pub same_bytes : (s t : List ℕ) → InForm s → InForm t → rules_in s ≡ rules_in t → s ≡ t
  -- 12 tells line k exactly if the text is out of form there: the lines before are in form, and line k is another than the one due or is missing
  pub told_out : (s : List ℕ) (room k : ℕ) → rules_read s room ≡ Err (OutOfForm k) → OutAt rule_form 0 s k
  pub out_told : (s : List ℕ) (room k : ℕ) → OutAt rule_form 0 s k → rules_read s room ≡ Err (OutOfForm k)
  -- what was written is read as the same rules, and what was read is written as the same bytes
  pub read_back_law : (rules s : List ℕ) (room wide : ℕ) → Small rules → file_written rules room ≡ Ok s → length rules ≤ wide
      → rules_read s wide ≡ Ok rules
  pub write_back : (s rules : List ℕ) (room wide : ℕ) → rules_read s room ≡ Ok rules → length s ≤ wide
      → file_written rules wide ≡ Ok s
  -- a refusal leaves the lent buffer
  pub read_left : (s out : List ℕ) (k : Refusal) → (read_into s out).0 ≡ Err k → (read_into s out).1 ≡ out
  pub write_left : (rules out : List ℕ) (k : Refusal) → (write_into rules out).0 ≡ Err k → (write_into rules out).1 ≡ out
  -- no second answer, and no second state of the lent buffer, meets a contract
  pub one_read : (s out : List ℕ) (r q : Answer ℕ) (a b : List ℕ) → (r, a) ≡ read_into s out → (q, b) ≡ read_into s out
      → (r ≡ q) × (a ≡ b)
  pub one_written : (rules out : List ℕ) (r q : Answer ℕ) (a b : List ℕ) → (r, a) ≡ write_into rules out
      → (q, b) ≡ write_into rules out → (r ≡ q) × (a ≡ b)
