-- The first place at which a number stands. Assumes nothing.
use Rattle.std.specs.Prelude.{ℕ, zero, suc, ◌+◌, cond, eqb}

-- the first of the k places from i on at which f is n; the place after them where there is none
unfoldable pub place_from : (ℕ → ℕ) → ℕ → ℕ → ℕ → ℕ
place_from f n i zero = i
place_from f n i (suc k) = cond (eqb (f i) n) i (place_from f n (i + 1) k)
