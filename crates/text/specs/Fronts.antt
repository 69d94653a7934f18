-- The front of a text up to a byte. Assumes nothing.
use Rattle.std.specs.Prelude.{ℕ, zero, suc, cond, List, [], ◌∷◌, eqb}

-- at most so many bytes of a text, up to the byte `stop`
abbrev pub up_to : ℕ → ℕ → List ℕ → List ℕ
up_to stop zero s = []
up_to stop (suc n) [] = []
up_to stop (suc n) (x ∷ s) = cond (eqb x stop) [] (x ∷ up_to stop n s)
