-- Bytes as a word of a line: two hexadecimal digits each. Assumes nothing.
use Rattle.std.specs.Prelude.{ℕ, List, [], ◌∷◌, ◌++◌}
use Rattle.text.specs.Digits.{run}

abbrev pub octets_text : List ℕ → List ℕ
octets_text [] = []
octets_text (b ∷ bs) = run 16 2 b ++ octets_text bs
