-- Runs of digits in a base, both ways: reading gives back what was written, and whatever is read is the writing of a number. Assumes nothing.
use Prim.Native.Nat.{ℕ, zero, suc, ◌+◌, ◌*◌, ◌/◌, ◌%◌, ◌^◌, ◌≤◌, ◌<◌}
use mathlib.Core.Path.{◌≡◌, refl, sym, ap, ◌∙◌}
use mathlib.Core.Bool.{Bool, true, false, cond}
use mathlib.Core.List.{List, [], ◌∷◌, ◌++◌}
use native.Mathlib.Nat.{add-zero, add-mul, mul_assoc, mul_comm, suc-mul, mul-le-mul_right, pow-zero, pow-suc, one-le-pow, mod-one, mod-lt, div-add-mod', mod-eq_of_lt, div-eq_of_lt, mul-add-div_right, mul-add-mod_self_right, div-div-eq-div-mul, div-one}
use native.Mathlib.Omega.{arith}
use lib.ListN.{length}
use borrow.Author.Tests.{ltb-true}
use Rattle.text.specs.Digits.{mark, run, worth, digit, got, no, fixed}
use Rattle.text.proofs.Marks.{worth_mark, digit_mark, mark_worth}

pub never : {A : Type 0} {x : A} {t : List ℕ} → no ≡ got x t → ⊥
never e = let z : ◌≡◌ {A = ℕ} 0 1 = cc in omega arith

-- ---- numbers

pub power_pos : (base k : ℕ) → 0 < base → 0 < base ^ k
power_pos base k h = one-le-pow k base h

-- a digit more
pub shift : (v d p r n base : ℕ) → d * p + r ≡ n → (v * base + d) * p + r ≡ v * (p * base) + n
shift v d p r n base e =
    let a : (v * base + d) * p ≡ v * base * p + d * p = add-mul (v * base) d p in
    let b : v * base * p ≡ v * (p * base) = mul_assoc v base p ∙ ap (λ (x : ℕ). v * x) (mul_comm base p) in
    omega arith

pub below_more : (d p r base : ℕ) → d < base → r < p → d * p + r < p * base
below_more d p r base h l =
    let m : suc d * p ≤ base * p = mul-le-mul_right p h in
    omega (arith, suc-mul d p, mul_comm base p)

-- the last digits of a number: the first of them and the others
rest_more : (n p base : ℕ) → 0 < p → 0 < base → n % (p * base) ≡ n / p % base * p + n % p
rest_more n p base hp hb =
    let d = n / p % base in
    let r = d * p + n % p in
    let e : (n / p / base * base + d) * p + n % p ≡ n / p / base * (p * base) + r = shift (n / p / base) d p (n % p) r base refl in
    let f : n / p / base * base + d ≡ n / p = div-add-mod' (n / p) base in
    let g : n / p * p + n % p ≡ n = div-add-mod' n p in
    let w : n ≡ n / p / base * (p * base) + r = sym g ∙ ap (λ (x : ℕ). x * p + n % p) (sym f) ∙ e in
    let l : r < p * base = below_more d p (n % p) base (mod-lt (n / p) hb) (mod-lt n hp) in
    ap (λ (x : ℕ). x % (p * base)) w ∙ mul-add-mod_self_right (n / p / base) (p * base) r ∙ mod-eq_of_lt l

pub last_more : (n base k : ℕ) → 0 < base → n % base ^ suc k ≡ n / base ^ k % base * base ^ k + n % base ^ k
last_more n base k h = rw (pow-suc base k) (rest_more n (base ^ k) base (power_pos base k h) h)

-- ---- a run of k digits

run_none : (base n : ℕ) → run base 0 n ≡ []
unfolding run
run_none base n = refl

pub run_suc : (base k n : ℕ) → run base (suc k) n ≡ mark (n / base ^ k % base) ∷ run base k n
unfolding run
run_suc base k n = refl

pub length_run : (base k n : ℕ) → length (run base k n) ≡ k
unfolding run
length_run base zero n = refl
length_run base (suc k) n = ap suc (length_run base k n)

-- the last digit and those before it
pub run_last : (base k n : ℕ) → run base (suc k) n ≡ run base k (n / base) ++ (mark (n % base) ∷ [])
unfolding run
run_last base zero n = rw (pow-zero base, div-one n)
run_last base (suc k) n =
    let e : n / base ^ suc k ≡ n / base / base ^ k = ap (λ (x : ℕ). n / x) (pow-suc base k ∙ mul_comm (base ^ k) base) ∙ sym (div-div-eq-div-mul n base (base ^ k)) in
    rw (e, run_last base k n)

-- the last k digits say nothing of those before them
run_same : (base k a n : ℕ) → 0 < base → run base k (a * base ^ k + n) ≡ run base k n
unfolding run
run_same base zero a n h = refl
run_same base (suc k) a n h =
    let e : a * base ^ suc k + n ≡ a * base * base ^ k + n =
    ap (λ (x : ℕ). x + n) (ap (λ (x : ℕ). a * x) (pow-suc base k ∙ mul_comm (base ^ k) base) ∙ sym (mul_assoc a base (base ^ k))) in
    let q : (a * base * base ^ k + n) / base ^ k ≡ a * base + n / base ^ k = mul-add-div_right (power_pos base k h) (a * base) n in
    let r : (a * base + n / base ^ k) % base ≡ n / base ^ k % base = mul-add-mod_self_right a base (n / base ^ k) in
    rw (e, q, r, run_same base k (a * base) n h)

pub run_cons : (base k d n : ℕ) → d < base → n < base ^ k → run base (suc k) (d * base ^ k + n) ≡ mark d ∷ run base k n
run_cons base k d n h l =
    let z : 0 < base = omega arith in
    let q : (d * base ^ k + n) / base ^ k ≡ d =
    mul-add-div_right (power_pos base k z) d n ∙ ap (λ (x : ℕ). d + x) (div-eq_of_lt l) ∙ add-zero d in
    rw (run_suc base k (d * base ^ k + n), q, mod-eq_of_lt h, run_same base k d n z)

-- reading k digits gives the number that was written, and stops right after it
pub fixed_run : (base k v n : ℕ) (s : List ℕ) → 0 < base → base ≤ 16 → fixed base k v (run base k n ++ s) ≡ got (v * base ^ k + n % base ^ k) s
unfolding run
fixed_run base zero v n s h m =
    let e : v ≡ v * base ^ 0 + n % base ^ 0 = rw (pow-zero base) (omega (arith, mod-one n)) in
    ap (λ (x : ℕ). got x s) e
fixed_run base (suc k) v n s h m =
    let d = n / base ^ k % base in
    let l : d < base = mod-lt (n / base ^ k) h in
    let l' : d < 16 = omega arith in
    let e : (v * base + d) * base ^ k + n % base ^ k ≡ v * base ^ suc k + n % base ^ suc k =
    shift v d (base ^ k) (n % base ^ k) (n % base ^ suc k) base (sym (last_more n base k h)) ∙ ap (λ (x : ℕ). v * x + n % base ^ suc k) (sym (pow-suc base k)) in
    rw (digit_mark base d m l, worth_mark d l') (fixed_run base k (v * base + d) n s h m ∙ ap (λ (x : ℕ). got x s) e)

-- whatever is read as k digits is the writing of a number in k digits
pub record Run (base k v : ℕ) (s : List ℕ) (w : ℕ) (t : List ℕ) : Type 0 where
  pub n : ℕ
  pub small : n < base ^ k
  pub value : w ≡ v * base ^ k + n
  pub text : s ≡ run base k n ++ t

pub run_fixed : (base k v : ℕ) (s : List ℕ) (w : ℕ) (t : List ℕ) → base ≤ 16 → fixed base k v s ≡ got w t → Run base k v s w t
run_fixed base zero v s w t m e =
    let a : v ≡ w = cc in
    let b : s ≡ t = cc in
    record { n = 0; small = rw (pow-zero base) (omega arith); value = rw (pow-zero base) (omega arith); text = rw (run_none base 0) b }
run_fixed base (suc k) v [] w t m e = absurd (never e)
run_fixed base (suc k) v (b ∷ s) w t m e = step base k v b s w t m (digit base b) refl (run_fixed base k (v * base + worth b) s w t m) e
  where
    step : (base k v b : ℕ) (s : List ℕ) (w : ℕ) (t : List ℕ) → base ≤ 16 → (f : Bool) → digit base b ≡ f
        → (fixed base k (v * base + worth b) s ≡ got w t → Run base k (v * base + worth b) s w t)
        → cond f (fixed base k (v * base + worth b) s) no ≡ got w t → Run base (suc k) v (b ∷ s) w t
    step base k v b s w t m false _ ih e = absurd (never e)
    step base k v b s w t m true f ih e =
        let r = ih e in
        let d = worth b in
        let l : d < base = ltb-true d base f in
        let l' : d < 16 = omega arith in
        let g : d * base ^ k + r.n < base ^ suc k = rw (pow-suc base k) (below_more d (base ^ k) r.n base l r.small) in
        record {
          n = d * base ^ k + r.n;
          small = g;
          value = r.value ∙ shift v d (base ^ k) r.n (d * base ^ k + r.n) base refl ∙ ap (λ (x : ℕ). v * x + (d * base ^ k + r.n)) (sym (pow-suc base k));
          text = rw (run_cons base k d r.n l r.small, mark_worth b l', ← r.text);
        }
