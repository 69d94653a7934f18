-- How far one table is the beginning of another. Assumes nothing.
use Rattle.std.specs.Prelude.{ℕ, ◌==◌, List, length}
use Rattle.std.specs.List.{take_while, zip}

-- how many numbers two lists have in common from the front
abbrev pub shared : List ℕ → List ℕ → ℕ
shared xs ys = length (take_while (λ p. p.0 == p.1) (zip xs ys))
