-- Laws of tests: a test at every number below n, which antt computes, carried to each of them; two tests joined; of two numbers one order holds.
-- Assumes nothing.
use mathlib.Core.Path.{◌≡◌, refl, sym, subst}
use mathlib.Core.Bool.{Bool, true, false, ◌&&◌, true≢false}
use mathlib.Core.Logic.{◌⊎◌, inl, inr, ⊎_elim}
use Prim.Native.Nat.{ℕ, zero, suc, ◌≤◌, ◌<◌}
use native.Mathlib.Nat.{not-suc-le-zero, le_of_suc-le-suc, eq-or-lt_of_le}
use native.Mathlib.Omega.{arith}
use lib.Dec.{T, leb}
use borrow.Author.Tests.{leb-true, leb-false, le-leb, lt-leb, lt-ltb, le-ltb, eq-eqb, ne_eqb}
use Rattle.std.specs.Ordering.{nat_cmp, is_le}

-- a test that passes is true, one that cannot pass is false
pub T_true : (b : Bool) → T b → b ≡ true
T_true true t = refl
T_true false t = absurd t

pub T_false : (b : Bool) → (T b → ⊥) → b ≡ false
T_false true t = absurd (t tt)
T_false false t = refl

-- both of two tests
pub and_left : (a b : Bool) → (a && b) ≡ true → a ≡ true
and_left true b e = refl
and_left false b e = e

pub and_right : (a b : Bool) → (a && b) ≡ true → b ≡ true
and_right true b e = e
and_right false b e = absurd (true≢false (sym e))

pub and_both : (a b : Bool) → a ≡ true → b ≡ true → (a && b) ≡ true
and_both a b e f = rw (e, f)

-- of two numbers one is at most the other, or above it
pub split : (a b : ℕ) → (a ≤ b) ⊎ (b < a)
split a b = go (leb a b) refl
  where
    go : (t : Bool) → leb a b ≡ t → (a ≤ b) ⊎ (b < a)
    go true e = inl (leb-true a b e)
    go false e = inr (leb-false a b e)

-- the second test where the first passes: antt computes it without the second where the first fails
abbrev pub both : Bool → Bool → Bool
both true b = b
both false b = false

pub both_left : (a b : Bool) → T (both a b) → T a
both_left true b t = tt
both_left false b t = t

pub both_right : (a b : Bool) → T (both a b) → T b
both_right true b t = t
both_right false b t = absurd t

-- the test f passes at each number below n
abbrev pub below : (ℕ → Bool) → ℕ → Bool
below f zero = true
below f (suc n) = both (f n) (below f n)

pub at : (f : ℕ → Bool) (n : ℕ) → T (below f n) → (k : ℕ) → k < n → T (f k)
at f zero t k h = absurd (not-suc-le-zero h)
at f (suc n) t k h =
    elim (eq-or-lt_of_le (le_of_suc-le-suc h)) [
      | inl e ↦ subst (λ (m : ℕ). T (f m)) (sym e) (both_left (f n) (below f n) t)
      | inr l ↦ at f n (both_right (f n) (below f n) t) k l
    ]

-- a test that cannot pass fails; so do two of which not both can pass
pub never : (b : Bool) → (b ≡ true → ⊥) → b ≡ false
never true h = absurd (h refl)
never false h = refl

pub and_never : (a b : Bool) → (a ≡ true → b ≡ true → ⊥) → (a && b) ≡ false
and_never true b h = never b (h refl)
and_never false b h = refl

-- whether a range `a..=b` holds x, in the words of these tests
at_most_is : (a b : ℕ) → is_le (nat_cmp a b) ≡ leb a b
at_most_is a b =
    ⊎_elim
    (λ l. ⊎_elim (λ q. let e : a ≡ b = omega arith in rw e (simp (le-ltb b b (omega arith), eq-eqb b b refl, le-leb b b (omega arith)))) (λ q. simp (lt-ltb a b q, le-leb a b l)) (split b a))
    (λ l. let n : b ≤ a = omega arith in let m : a ≡ b → ⊥ = λ e. omega arith in simp (le-ltb a b n, ne_eqb a b m, lt-leb a b l)) (split a b)

pub in_range_is : (a b x : ℕ) → (is_le (nat_cmp a x) && is_le (nat_cmp x b)) ≡ (leb a x && leb x b)
in_range_is a b x = rw (at_most_is a x, at_most_is x b)
