-- One line `key=NUMBER`, ended by a line feed: the number decimal, at most 65,535 and without leading zeros. Assumes nothing.
use Rattle.std.specs.Prelude.{ℕ, List, ◌++◌}
use Rattle.text.specs.Quoted.{bytes}
use Rattle.text.specs.Digits.{digits, Got, got, no, found, past, behind, decimal}

abbrev pub equals : List ℕ
equals = bytes "="

abbrev pub feed : List ℕ
feed = bytes "\n"

-- the line that holds a number under a key
abbrev pub line_text : List ℕ → ℕ → List ℕ
line_text key n = (key ++ (equals ++ digits n)) ++ feed

-- the number of the line under a key that a text starts with, and the text after that line
unfoldable pub line : List ℕ → List ℕ → Got ℕ
line key s = found (behind key (behind equals (decimal 65535)) s) (λ n t. found (past feed t) (λ u r. got n r) no) no
