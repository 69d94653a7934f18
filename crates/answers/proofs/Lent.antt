-- The first part of an array that holds one value is a buffer that holds it. Assumes nothing.
use Prim.Native.Nat.{ℕ, zero, suc, ◌≤◌}
use mathlib.Core.Path.{◌≡◌, refl, ap}
use mathlib.Core.List.{List, ◌∷◌}
use native.Mathlib.Omega.{arith}
use lib.Ieee.{binary64, of_bits}
use lib.ListN.{take, replicate}
use Rattle.paper.specs.Floats.{near, dec}

pub taken : {A : Type 0} (k room : ℕ) (x : A) → k ≤ room → take k (replicate room x) ≡ replicate k x
taken zero room x h = refl
taken (suc k) zero x h = absurd (let bad : ⊥ = omega arith in bad)
taken {A} (suc k) (suc room) x h = ap (λ (l : List A). x ∷ l) (taken k room x (omega arith))

-- 7, as the code has it
pub seven : of_bits binary64 4619567317775286272 ≡ dec 7 0
unfolding of_bits near
seven = refl
