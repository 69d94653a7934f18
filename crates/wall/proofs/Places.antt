-- The turns of a loop that finds the first place at which a number stands. Assumes nothing.
use Prim.Native.Nat.{ℕ, zero, suc, ◌+◌, ◌≤◌}
use mathlib.Core.Path.{◌≡◌, refl}
use native.Mathlib.Omega.{arith}
use borrow.Author.Tests.{eq-eqb, ne_eqb}
use Rattle.wall.specs.Places.{place_from}

module _ (f : ℕ → ℕ) (n i : ℕ) where
  pub place_over : (left : ℕ) → left ≤ 0 → i ≡ place_from f n i left
  unfolding place_from
  place_over zero h = refl
  place_over (suc left) h = absurd (let bad : ⊥ = omega arith in bad)

  pub place_found : (left : ℕ) → f i ≡ n → i ≡ place_from f n i left
  unfolding place_from
  place_found zero e = refl
  place_found (suc left) e = rw (eq-eqb (f i) n e)

  pub place_turn : (left rest : ℕ) → left ≡ suc rest → (f i ≡ n → ⊥) → place_from f n (i + 1) rest ≡ place_from f n i left
  unfolding place_from
  place_turn left rest e d = rw (e, ne_eqb (f i) n d)
