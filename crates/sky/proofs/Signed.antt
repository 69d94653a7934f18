-- Signed numbers of the code, which the machine keeps by their bits: a test on one. Assumes nothing.
use mathlib.Core.Path.{◌≡◌, sym, ap, ◌∙◌}
use Prim.Native.Nat.{ℕ}
use lib.IntN.{ℤ}
use mir.Syntax.{Width}
use mir.Val.{SFits, to_z, of_z}
use mir.ValLaws.{to_z-of_z}

-- a test z == k that passed, for the k whose bits the test has
pub is : (w : Width) (z : ℤ) → SFits w z → (k : ℕ) → of_z w z ≡ k → z ≡ to_z w k
is w z f k q = sym (to_z-of_z w z f) ∙ ap (to_z w) q

-- a test z == v that failed
pub is_not : (w : Width) (z v : ℤ) → (of_z w z ≡ of_z w v → ⊥) → z ≡ v → ⊥
is_not w z v h q = h (ap (of_z w) q)
