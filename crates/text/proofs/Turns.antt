-- The turns of the loops that read and write numbers, over plain variables. Assumes nothing.
use Rattle.std.specs.Prelude.{None, Some}
use Prim.Native.Nat.{ℕ, zero, suc, ◌+◌, ◌-◌, ◌*◌, ◌/◌, ◌%◌, ◌^◌, ◌≤◌, ◌<◌}
use mathlib.Core.Path.{◌≡◌, refl, sym, ap, ◌∙◌}
use mathlib.Core.Bool.{Bool, true, false, cond}
use mathlib.Core.List.{List, [], ◌∷◌}
use native.Mathlib.Nat.{le_trans, mul_assoc, mul_comm, suc-mul, mul-le-mul_right, le-mul_of_pos_right, pow-suc, pow-le-pow_right}
use native.Mathlib.Omega.{arith}
use borrow.Author.Tests.{lt-ltb, le-ltb, le-leb, lt-leb, ltb-true, ltb-false}
use lib.Dec.{ltb}
use lib.ListN.{length, get_or, drop, set}
use lib.Seq.{sets}
use Rattle.paper.proofs.Stores.{sets_append, sets_behind}
use Rattle.text.specs.Digits.{mark, run, worth, digit_of, got, no, fixed, wide, scan}
use Rattle.text.proofs.Runs.{power_pos, run_last, length_run}
use Rattle.text.proofs.Texts.{cut, over}

-- ---- a digit

-- what is told of a byte as a digit
pub digit_is : (base b d : ℕ) → Some d ≡ digit_of base b → (d ≡ worth b) × (worth b < base)
digit_is base b d e = go (ltb (worth b) base) refl e
  where
    go : (t : Bool) → ltb (worth b) base ≡ t → Some d ≡ cond t (Some (worth b)) None → (d ≡ worth b) × (worth b < base)
    go true t q = let w : d ≡ worth b = cc in (w, ltb-true (worth b) base t)
    go false t q = absurd (let z : ◌≡◌ {A = ℕ} 0 1 = cc in let bad : ⊥ = omega arith in bad)

pub digit_not : (base b : ℕ) → None ≡ digit_of base b → base ≤ worth b
digit_not base b e = go (ltb (worth b) base) refl e
  where
    go : (t : Bool) → ltb (worth b) base ≡ t → None ≡ cond t (Some (worth b)) None → base ≤ worth b
    go true t q = absurd (let z : ◌≡◌ {A = ℕ} 0 1 = cc in let bad : ⊥ = omega arith in bad)
    go false t q = ltb-false (worth b) base t

-- ---- exactly k digits

-- too few bytes are left
pub fixed_short : (base k v : ℕ) (s : List ℕ) → length s < k → no ≡ fixed base k v s
fixed_short base zero v s h = absurd (let bad : ⊥ = omega arith in bad)
fixed_short base (suc k) v [] h = refl
fixed_short base (suc k) v (b ∷ s) h = go (ltb (worth b) base) (fixed_short base k (v * base + worth b) s (omega arith))
  where
    go : (t : Bool) → no ≡ fixed base k (v * base + worth b) s → no ≡ cond t (fixed base k (v * base + worth b) s) no
    go true e = e
    go false e = refl

module _ (s : List ℕ) (base i v : ℕ) {b : ℕ} (h : i < length s) (at : b ≡ get_or s i 0) where
  pub fixed_stop : (left : ℕ) → None ≡ digit_of base b → 0 < left → no ≡ fixed base left v (drop i s)
  fixed_stop zero d l = absurd (let bad : ⊥ = omega arith in bad)
  fixed_stop (suc left) d l = let w = digit_not base b d in rw (cut s i h, ← at, le-ltb (worth b) base w)

  pub fixed_turn : (left : ℕ) {d : ℕ} → Some d ≡ digit_of base b → 0 < left → fixed base (left - 1) (v * base + d) (drop (i + 1) s) ≡ fixed base left v (drop i s)
  fixed_turn zero d l = absurd (let bad : ⊥ = omega arith in bad)
  fixed_turn (suc left) d l =
      let w = digit_is base b _ d in
      let e : suc left - 1 ≡ left = omega arith in
      rw (e, w.0, cut s i h, ← at, lt-ltb (worth b) base w.1)

-- the number so far leaves room for the digits that are left
pub room_turn : (v d base left most : ℕ) → d < base → 0 < left → suc v * base ^ left ≤ most → suc (v * base + d) * base ^ (left - 1) ≤ most
room_turn v d base zero most h l m = absurd (let bad : ⊥ = omega arith in bad)
room_turn v d base (suc left) most h l m =
    let e : suc left - 1 ≡ left = omega arith in
    let p = base ^ left in
    let a : suc (v * base + d) ≤ suc v * base = omega (arith, suc-mul v base) in
    let b : suc v * base * p ≡ suc v * (p * base) = mul_assoc (suc v) base p ∙ ap (λ (x : ℕ). suc v * x) (mul_comm base p) in
    let c : suc v * base ^ suc left ≡ suc v * (p * base) = ap (λ (x : ℕ). suc v * x) (pow-suc base left) in
    let f : suc (v * base + d) * p ≤ suc v * base * p = mul-le-mul_right p a in
    rw e (omega arith)

pub room_small : (v base left most : ℕ) → 0 < base → suc v * base ^ left ≤ most → v < most
room_small v base left most h m = le_trans (le-mul_of_pos_right (suc v) (power_pos base left h)) m

-- up to nineteen decimal digits are a u64
pub wide_is : (k : ℕ) (s : List ℕ) → k ≤ 19 → wide k s ≡ fixed 10 k 0 s
unfolding wide
wide_is k s h = rw (le-leb k 19 h)

pub wide_not : (k : ℕ) (s : List ℕ) → 19 < k → no ≡ wide k s
unfolding wide
wide_not k s h = rw (lt-leb k 19 h)

pub wide_fits : (k : ℕ) → k ≤ 19 → 10 ^ k ≤ 2 ^ 64
wide_fits k h =
    let z : 0 < 10 = omega arith in
    let p : 10 ^ k ≤ 10 ^ 19 = pow-le-pow_right z h in
    omega arith

-- ---- all decimal digits that follow

module _ (limit : ℕ) (s : List ℕ) (i v : ℕ) where
  pub scan_over : length s ≤ i → got v (drop i s) ≡ scan limit v (drop i s)
  scan_over h = rw (over s i h)

  module _ {b : ℕ} (h : i < length s) (at : b ≡ get_or s i 0) where
    pub scan_stop : None ≡ digit_of 10 b → got v (drop i s) ≡ scan limit v (drop i s)
    scan_stop d = let w = digit_not 10 b d in rw (cut s i h, ← at, le-ltb (worth b) 10 w)

    module _ {d : ℕ} (e : Some d ≡ digit_of 10 b) where
      pub scan_large : limit < v * 10 + d → no ≡ scan limit v (drop i s)
      scan_large l =
          let w = digit_is 10 b d e in
          let m : limit < v * 10 + worth b = omega arith in
          rw (cut s i h, ← at, lt-ltb (worth b) 10 w.1, lt-leb (v * 10 + worth b) limit m)

      pub scan_turn : v * 10 + d ≤ limit → scan limit (v * 10 + d) (drop (i + 1) s) ≡ scan limit v (drop i s)
      scan_turn l =
          let w = digit_is 10 b d e in
          let m : v * 10 + worth b ≤ limit = omega arith in
          rw (w.0, cut s i h, ← at, lt-ltb (worth b) 10 w.1, le-leb (v * 10 + worth b) limit m)

-- ---- writing

-- a byte more of a text
pub put_turn : (l src : List ℕ) (next i : ℕ) → i < length src
    → sets (set l next (get_or src i 0)) (next + 1) (drop (i + 1) src) ≡ sets l next (drop i src)
put_turn l src next i h =
    let e : next + 1 ≡ suc next = omega arith in
    rw (e, cut src i h)

-- the last digit before those in front of it
pub run_turn : (l : List ℕ) (at base left n : ℕ) → 0 < left
    → sets (set l (at + (left - 1)) (mark (n % base))) at (run base (left - 1) (n / base)) ≡ sets l at (run base left n)
run_turn l at base zero n h = absurd (let bad : ⊥ = omega arith in bad)
run_turn l at base (suc left) n h =
    let e : suc left - 1 ≡ left = omega arith in
    let vs = run base left (n / base) in
    let k : length vs ≡ left = length_run base left (n / base) in
    let m : at + length vs ≤ at + left = omega arith in
    rw e
    (sets_behind vs l at (at + left) (mark (n % base)) m
    ∙ ap (λ (x : ℕ). set (sets l at vs) (at + x) (mark (n % base))) (sym k)
    ∙ sym (sets_append vs (mark (n % base) ∷ []) l at)
    ∙ ap (sets l at) (sym (run_last base left n)))

pub run_done : (l : List ℕ) (at base left n : ℕ) → left ≤ 0 → l ≡ sets l at (run base left n)
unfolding run
run_done l at base zero n h = refl
run_done l at base (suc left) n h = absurd (let bad : ⊥ = omega arith in bad)
