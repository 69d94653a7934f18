-- The turns of the loop that tests for UTF-8, over plain variables. Assumes nothing.
use Prim.Native.Nat.{ℕ, zero, suc, ◌-◌, ◌≤◌, ◌<◌}
use mathlib.Core.Path.{◌≡◌, refl}
use mathlib.Core.Bool.{false}
use mathlib.Core.List.{List, [], ◌∷◌}
use native.Mathlib.Omega.{arith}
use borrow.Author.Tests.{le-leb, lt-leb}
use lib.Dec.{eqb, eqb-suc-zero}
use Rattle.utf8.specs.Utf8.{follow, low, high, comes}

-- ---- UTF-8: w is left, and begins with b

-- nothing is left
pub comes_end : (w : List ℕ) (left least most : ℕ) → w ≡ [] → eqb left 0 ≡ comes left least most w
comes_end w zero least most e = rw e
comes_end w (suc left) least most e = rw (e, eqb-suc-zero left)

module _ (w t : List ℕ) (left least most b : ℕ) (e : w ≡ b ∷ t) where
  -- the first byte of a character
  pub first_turn : left ≡ 0 → follow b ≤ 3 → comes (follow b) (low b) (high b) t ≡ comes left least most w
  first_turn z l = let u = le-leb (follow b) 3 l in rw (z, e, u)

module _ (w t : List ℕ) (least most b : ℕ) (e : w ≡ b ∷ t) where
  -- one of the others
  pub tail_turn : (left : ℕ) → (left ≡ 0 → ⊥) → least ≤ b → b ≤ most → comes (left - 1) 128 191 t ≡ comes left least most w
  tail_turn zero n l m = absurd (n refl)
  tail_turn (suc left) n l m =
      let u = le-leb least b l in
      let v = le-leb b most m in
      let f : suc left - 1 ≡ left = omega arith in
      rw (f, e, u, v)

  pub tail_low : (left : ℕ) → (left ≡ 0 → ⊥) → b < least → false ≡ comes left least most w
  tail_low zero n l = absurd (n refl)
  tail_low (suc left) n l = let u = lt-leb least b l in rw (e, u)

  pub tail_high : (left : ℕ) → (left ≡ 0 → ⊥) → least ≤ b → most < b → false ≡ comes left least most w
  tail_high zero n l m = absurd (n refl)
  tail_high (suc left) n l m = let u = le-leb least b l in let v = lt-leb b most m in rw (e, u, v)
