-- A file of names: lines `NUMBER=TEXT`, each ended by a line feed, with rising numbers. A file of no bytes has no names. Assumes nothing.
use Rattle.std.specs.Prelude.{ℕ, suc, Bool, true, false, cond, ◌&&◌, List, [], ◌∷◌, leb, eqb, drop, None, Option, Some, Result, Ok, Err}
use Rattle.text.specs.Digits.{Got, got, no, found, past, starts, is_end, decimal}
use Rattle.text.specs.Quoted.{bytes}
use Rattle.utf8.specs.Utf8.{utf8}
use Rattle.utf8.specs.Controls.{first_control}
use Rattle.utf8.specs.Characters.{front}
use Rattle.naming.specs.declared.lines.Fault.{Fault}
use Rattle.naming.specs.declared.lines.Fault.TheVariants.{Mark, Form, NotGreater, NoText, NotUtf8, Control, NoFeed}

-- ---- the lines of a file

-- the lines, without their line feeds, and the bytes behind the last of them
pub data Lines : Type 0 where
  ended : List ℕ → Lines → Lines
  last : List ℕ → Lines

-- one byte more in front of the first line
abbrev pub longer : ℕ → Lines → Lines
longer b (ended s more) = ended (b ∷ s) more
longer b (last s) = last (b ∷ s)

-- a file cut at its line feeds (10)
abbrev pub lines_of : List ℕ → Lines
lines_of [] = last []
lines_of (b ∷ s) = cond (eqb b 10) (ended [] (lines_of s)) (longer b (lines_of s))

-- the line in front, or what there is of one
abbrev pub first_line : Lines → List ℕ
first_line (ended s more) = s
first_line (last s) = s

-- ---- a line

-- a number and its text
pub record Name : Type 0 where
  pub number : ℕ
  pub text : List ℕ

-- a line is a name, or something is wrong with it
pub data Judged : Type 0 where
  is : Name → Judged
  wrong : Fault → Judged

-- the number of a line `NUMBER=TEXT`, and the text: decimal, at most 65,535 and without leading zeros
unfoldable pub headed : List ℕ → Got ℕ
headed s = found (decimal 65535 s) (λ n t. found (past (bytes "=") t) (λ u text. got n text) no) no

-- a text without control characters makes a name
abbrev pub cleared : ℕ → List ℕ → Option ℕ → Judged
cleared n text (Some b) = wrong (Control b)
cleared n text None = is (record { number = n; text = text })

-- a text of one byte or more, in UTF-8 and without control characters
unfoldable pub texted : ℕ → List ℕ → Judged
texted n text = cond (is_end text) (wrong NoText) (cond (utf8 text) (cleared n text (first_control false text)) (wrong NotUtf8))

-- a line whose number must be at least `least`
unfoldable pub judged : ℕ → List ℕ → Judged
judged least s = found (headed s) (λ n text. cond (leb least n) (texted n text) (wrong NotGreater)) (wrong Form)

-- ---- the file

-- the names of a file; or the first line that is none, and what is wrong there
pub data Names : Type 0 where
  are : List Name → Names
  fails : ℕ → Fault → Names

-- one name more in front
abbrev pub ahead : Name → Names → Names
ahead x (are xs) = are (x ∷ xs)
ahead x (fails n fault) = fails n fault

-- a name goes on, what is wrong is told with the line's number
abbrev pub named : Judged → ℕ → (Name → Names) → Names
named (is x) n more = more x
named (wrong fault) n more = fails n fault

-- the names of lines from number n on, of which the first has a number of at least `least`
abbrev pub names_from : ℕ → ℕ → Lines → Names
names_from n least (ended s more) = named (judged least s) n (λ x. ahead x (names_from (suc n) (suc x.number) more))
names_from n least (last s) = cond (is_end s) (are []) (named (judged least s) n (λ x. fails n NoFeed))

-- the file begins with a byte order mark (239, 187, 191)
unfoldable pub marked : List ℕ → Bool
marked s = starts 239 s && (starts 187 (drop 1 s) && starts 191 (drop 2 s))

-- the names of a file, whose lines count from 1
unfoldable pub names_of : List ℕ → Names
names_of s = cond (marked s) (fails 1 Mark) (names_from 1 0 (lines_of s))

-- ---- the name of a number

-- the text of a line with that number, else another
unfoldable pub text_of : ℕ → List ℕ → Option (List ℕ) → Option (List ℕ)
text_of number s other = found (headed s) (λ n text. cond (eqb n number) (Some text) other) other

-- the text of the first line with that number, whatever else the file has
abbrev pub text_in : ℕ → Lines → Option (List ℕ)
text_in number (ended s more) = text_of number s (text_in number more)
text_in number (last s) = text_of number s None

-- there is such a line
abbrev pub present : Option (List ℕ) → Bool
present (Some text) = true
present None = false

-- its first 120 characters, and nothing where there is none
abbrev pub shown : Option (List ℕ) → List ℕ
shown (Some text) = front 120 text
shown None = []

-- whether a file has a name of that number, and what is written of it
unfoldable pub has_name : ℕ → List ℕ → Bool
has_name number s = present (text_in number (lines_of s))

unfoldable pub name_of : ℕ → List ℕ → List ℕ
name_of number s = shown (text_in number (lines_of s))

-- ---- what the code's answers say

-- of a name its number
abbrev pub line_of : Judged → Result ℕ Fault
line_of (is x) = Ok x.number
line_of (wrong fault) = Err fault

-- in form, or the first line that is not
abbrev pub told : Names → Result (Unit {0}) (ℕ × Fault)
told (are xs) = Ok tt
told (fails n fault) = Err (n, fault)

abbrev pub checked : List ℕ → Result (Unit {0}) (ℕ × Fault)
checked s = told (names_of s)
