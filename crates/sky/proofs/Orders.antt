-- Two floats in order: what is at most another is not above it, and of two finite ones the first is at most the second or above it. Assumes nothing.
use mathlib.Core.Path.{◌≡◌, refl, subst}
use mathlib.Core.Bool.{Bool, true, false, ◌&&◌, ◌||◌}
use Prim.Native.Nat.{ℕ, zero, suc, ◌+◌, ◌*◌, ◌<◌}
use native.Mathlib.Omega.{arith}
use borrow.Author.Tests.{lt-ltb, le-ltb, ltb-false, eqb-false}
use lib.Dec.{T, ltb, eqb, eqb→eq}
use lib.Ieee.{Float, nan, inf, fin, up, down, below, level, lt, le}
use lib.Ieee.Fits.{and_l, and_r}
use Rattle.paper.proofs.Within.{up_to, down_to}

flip : (s : Bool) (a : ℕ) (t : Bool) (b : ℕ) → T (below s a t b || level s a t b) → below t b s a ≡ false
flip false a false b h = le-ltb b a (up_to a b h)
flip false a true b h =
    let q = eqb→eq a b (and_l (eqb a b) (eqb a 0) h) in
    let z = eqb→eq a 0 (and_r (eqb a b) (eqb a 0) h) in
    le-ltb 0 (b + a) (omega arith)
flip true a false b h = refl
flip true a true b h = le-ltb a b (down_to a b h)

-- what is at most another is not above it
pub le_not_above : (x y : Float) → T (le x y) → lt y x ≡ false
unfolding le
le_not_above nan y h = absurd h
le_not_above (inf s) nan h = absurd h
le_not_above (inf true) (inf true) h = refl
le_not_above (inf true) (inf false) h = refl
le_not_above (inf false) (inf true) h = absurd h
le_not_above (inf false) (inf false) h = refl
le_not_above (inf true) (fin t n d) h = refl
le_not_above (inf false) (fin t n d) h = absurd h
le_not_above (fin s m e) nan h = absurd h
le_not_above (fin s m e) (inf true) h = absurd h
le_not_above (fin s m e) (inf false) h = refl
le_not_above (fin s m e) (fin t n d) h = flip s (m * up e * down d) t (n * up d * down e) h

-- ---- of two finite values one is at most the other, or above it

or_left : (a b : Bool) → (a || b) ≡ false → a ≡ false
or_left true b h = h
or_left false b h = refl

or_right : (a b : Bool) → (a || b) ≡ false → b ≡ false
or_right true b h = absurd (subst T h tt)
or_right false b h = h

and_true : (a : Bool) → (a && true) ≡ false → a ≡ false
and_true true h = h
and_true false h = refl

apart : (a b : ℕ) → (ltb a b || (eqb a b && true)) ≡ false → b < a
apart a b h =
    let p = ltb-false a b (or_left (ltb a b) (eqb a b && true) h) in
    let q : a ≡ b → ⊥ = eqb-false a b (and_true (eqb a b) (or_right (ltb a b) (eqb a b && true) h)) in
    omega (arith, q)

pub total : (s : Bool) (a : ℕ) (t : Bool) (b : ℕ) → (below s a t b || level s a t b) ≡ false → below t b s a ≡ true
total false a false b h = lt-ltb b a (apart a b h)
total false zero true zero h = absurd (subst T h tt)
total false zero true (suc b) h = lt-ltb 0 (suc b + 0) (omega arith)
total false (suc a) true b h = lt-ltb 0 (b + suc a) (omega arith)
total true zero false zero h = absurd (subst T h tt)
total true zero false (suc b) h =
    let p = ltb-false 0 (0 + suc b) (or_left (ltb 0 (0 + suc b)) (level true 0 false (suc b)) h) in absurd (omega arith)
total true (suc a) false b h =
    let p = ltb-false 0 (suc a + b) (or_left (ltb 0 (suc a + b)) (level true (suc a) false b) h) in absurd (omega arith)
total true a true b h = lt-ltb a b (swap (ltb b a) h)
  where
    swap : (c : Bool) → (ltb b a || (eqb a b && true)) ≡ false → a < b
    swap c h =
        let p = ltb-false b a (or_left (ltb b a) (eqb a b && true) h) in
        let q : a ≡ b → ⊥ = eqb-false a b (and_true (eqb a b) (or_right (ltb b a) (eqb a b && true) h)) in
        omega (arith, q)
