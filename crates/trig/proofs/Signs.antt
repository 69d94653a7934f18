-- Order and sign of floats: negation turns the order round, and `magnitude` and `signed` go by the side of zero that a number is on. Assumes nothing.
use Prim.Native.Nat.{ℕ, ◌+◌, ◌*◌, ◌≤◌, ◌<◌}
use mathlib.Core.Bool.{Bool, true, false, not, cond, ◌&&◌, ◌||◌, true≢false}
use mathlib.Core.Path.{◌≡◌, refl, sym, ◌∙◌, subst}
use mathlib.Core.Logic.{⊎_elim}
use native.Mathlib.Nat.{add_comm, zero-mul, add-zero, mul-pos}
use native.Mathlib.Omega.{arith}
use lib.Dec.{T, ltb, lt→ltb, eqb, eqb→eq, eqb_refl, leb-suc-zero}
use lib.Ieee.{Float, nan, inf, fin, neg, lt, le, eq, of_bits, below, level, up, down}
use lib.Ieee.Bits.{is_true}
use lib.Ieee.Fits.{and_i, and_l, and_r, down_pos}
use Rattle.paper.proofs.Tests.{split}
use Rattle.trig.specs.Trig.{zero, most, magnitude, turned, signed}

pub neg_neg : (x : Float) → neg (neg x) ≡ x
unfolding neg
neg_neg nan = refl
neg_neg (inf true) = refl
neg_neg (inf false) = refl
neg_neg (fin true m e) = refl
neg_neg (fin false m e) = refl

-- ---- negation turns the order round

later : (a b c : Bool) → T (a || b) → (T b → T c) → T (a || c)
later true b c t f = tt
later false b c t f = f t

swapped : (a b : ℕ) → T (eqb a b && true) → T (eqb b a && true)
swapped a b h = subst (λ (k : ℕ). T (eqb k a && true)) (eqb→eq a b (and_l (eqb a b) true h)) (and_i (eqb a a) true (eqb_refl a) tt)

zeros : (a b : ℕ) → T (eqb a b && eqb a 0) → T (eqb b a && eqb b 0)
zeros a b h =
    let e : a ≡ b = eqb→eq a b (and_l (eqb a b) (eqb a 0) h) in
    subst (λ (k : ℕ). T (eqb k a && eqb k 0)) e (and_i (eqb a a) (eqb a 0) (eqb_refl a) (and_r (eqb a b) (eqb a 0) h))

about : (s : Bool) (a : ℕ) (t : Bool) (b : ℕ) → T (below s a t b || level s a t b) → T (below (not t) b (not s) a || level (not t) b (not s) a)
about false a false b h = later (ltb a b) (eqb a b && true) (eqb b a && true) h (swapped a b)
about true a true b h = later (ltb b a) (eqb a b && true) (eqb b a && true) h (swapped a b)
about true a false b h = rw (add_comm b a) (later (ltb 0 (a + b)) (eqb a b && eqb a 0) (eqb b a && eqb b 0) h (zeros a b))
about false a true b h = zeros a b h

pub le_neg : (x y : Float) → T (le x y) → T (le (neg y) (neg x))
unfolding neg le lt eq
le_neg nan y h = absurd h
le_neg (inf s) nan h = absurd h
le_neg (inf true) (inf true) h = tt
le_neg (inf true) (inf false) h = tt
le_neg (inf false) (inf true) h = absurd h
le_neg (inf false) (inf false) h = tt
le_neg (inf true) (fin t n d) h = tt
le_neg (inf false) (fin t n d) h = absurd h
le_neg (fin s m e) nan h = absurd h
le_neg (fin s m e) (inf true) h = absurd h
le_neg (fin s m e) (inf false) h = tt
le_neg (fin s m e) (fin t n d) h = about s _ t _ h

-- within a number and its negative, either way
pub between_neg : (b x : Float) → T (le (neg b) x && le x b) → T (le (neg b) (neg x) && le (neg x) b)
between_neg b x h =
    let l : T (le (neg b) x) = and_l (le (neg b) x) (le x b) h in
    let r : T (le x b) = and_r (le (neg b) x) (le x b) h in
    and_i (le (neg b) (neg x)) (le (neg x) b) (le_neg x b r) (rw (neg_neg b) at (le_neg (neg b) x l))

-- ---- the side of zero that a number is on

pub zero_lt_neg : (x : Float) → lt zero (neg x) ≡ lt x zero
unfolding neg lt of_bits
zero_lt_neg nan = refl
zero_lt_neg (inf true) = refl
zero_lt_neg (inf false) = refl
zero_lt_neg (fin true n d) = simp (zero-mul, add-zero)
zero_lt_neg (fin false n d) = simp (zero-mul, leb-suc-zero)

pub neg_lt_zero : (x : Float) → lt (neg x) zero ≡ lt zero x
neg_lt_zero x = sym (rw (neg_neg x) at (zero_lt_neg (neg x)))

pub not_both : (x : Float) → lt zero x ≡ true → lt x zero ≡ true → ⊥
unfolding lt of_bits
not_both nan p q = true≢false (sym p)
not_both (inf true) p q = true≢false (sym p)
not_both (inf false) p q = true≢false (sym q)
not_both (fin true n d) p q = true≢false (sym p)
not_both (fin false n d) p q = true≢false (sym (simp (zero-mul, leb-suc-zero) at q))

-- a number is above its negative exactly if it is above zero
twice : (a d : ℕ) → 0 < d → ltb 0 (a * d + a * d) ≡ ltb (0 * d) (a * 1)
twice a d h = ⊎_elim none some (split a 0)
  where
    none : a ≤ 0 → ltb 0 (a * d + a * d) ≡ ltb (0 * d) (a * 1)
    none l = let e : a ≡ 0 = omega arith in rw e (simp zero-mul)

    some : 0 < a → ltb 0 (a * d + a * d) ≡ ltb (0 * d) (a * 1)
    some l =
        let p : 0 < a * d = mul-pos l h in
        is_true (ltb 0 (a * d + a * d)) (lt→ltb 0 (a * d + a * d) (omega arith)) ∙ sym (is_true (ltb (0 * d) (a * 1)) (lt→ltb (0 * d) (a * 1) (omega arith)))

neg_lt : (x : Float) → lt (neg x) x ≡ lt zero x
unfolding neg lt of_bits
neg_lt nan = refl
neg_lt (inf true) = refl
neg_lt (inf false) = refl
neg_lt (fin true n d) = refl
neg_lt (fin false n d) = twice (n * up d) (down d) (down_pos d)

-- ---- magnitude and sign

-- the larger of x and -x, and of that and 0.0
pub largest_is : (x : Float) → most (most x (neg x)) zero ≡ magnitude x
unfolding most magnitude
largest_is x = rw (neg_lt x) (go (lt zero x) refl)
  where
    go : (p : Bool) → lt zero x ≡ p → cond (lt zero (cond p x (neg x))) (cond p x (neg x)) zero ≡ cond p x (cond (lt x zero) (neg x) zero)
    go true e = rw e
    go false e = rw (zero_lt_neg x)

pub magnitude_neg : (x : Float) → magnitude (neg x) ≡ magnitude x
unfolding magnitude
magnitude_neg x = rw (zero_lt_neg x, neg_lt_zero x, neg_neg x) (go (lt zero x) (lt x zero) refl refl)
  where
    go : (p q : Bool) → lt zero x ≡ p → lt x zero ≡ q → cond q (neg x) (cond p x zero) ≡ cond p x (cond q (neg x) zero)
    go true true a b = absurd (not_both x a b)
    go true false a b = refl
    go false q a b = refl

pub signed_neg : (x v : Float) → signed (neg x) v ≡ neg (signed x v)
unfolding signed turned
signed_neg x v = rw (zero_lt_neg x, neg_lt_zero x) (go (lt zero x) (lt x zero) refl refl)
  where
    go : (p q : Bool) → lt zero x ≡ p → lt x zero ≡ q → cond q v (cond p (neg v) (neg x)) ≡ neg (cond p v (cond q (neg v) x))
    go true true a b = absurd (not_both x a b)
    go true false a b = refl
    go false true a b = sym (neg_neg v)
    go false false a b = refl
