-- Halving, over any offset: which half is kept, and what is left at the end. Assumes nothing.
use mathlib.Core.Path.{◌≡◌, refl}
use mathlib.Core.Bool.{true, false}
use Prim.Native.Nat.{ℕ, zero, suc, ◌-◌, ◌<◌}
use native.Mathlib.Nat.{not-suc-le-zero}
use native.Mathlib.Numerals.{sub-one}
use lib.Ieee.{Float, le}
use Rattle.paper.specs.Floats.{◌⊕◌, ◌⊘◌, dec}
use Rattle.sky.specs.Search.{halved}

abbrev pub middle : Float → Float → Float
middle a b = (a ⊕ b) ⊘ dec 2 0

module _ (f : Float → Float) where
  pub halved_low : (n : ℕ) (a b : Float) → 0 < n → le (f (middle a b)) (dec 0 0) ≡ true → halved f n a b ≡ halved f (n - 1) (middle a b) b
  unfolding halved
  halved_low zero a b h e = absurd (not-suc-le-zero h)
  halved_low (suc n) a b h e = rw sub-one (simp e)

  pub halved_high : (n : ℕ) (a b : Float) → 0 < n → le (f (middle a b)) (dec 0 0) ≡ false → halved f n a b ≡ halved f (n - 1) a (middle a b)
  unfolding halved
  halved_high zero a b h e = absurd (not-suc-le-zero h)
  halved_high (suc n) a b h e = rw sub-one (simp e)

  pub halved_done : (a b : Float) → halved f 0 a b ≡ middle a b
  unfolding halved
  halved_done a b = refl
