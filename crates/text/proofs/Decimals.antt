-- Decimal numbers in the fewest digits, both ways. Assumes nothing.
use Prim.Native.Nat.{ℕ, zero, suc, ◌+◌, ◌*◌, ◌/◌, ◌%◌, ◌^◌, ◌≤◌, ◌<◌}
use mathlib.Core.Path.{◌≡◌, refl, sym, ap, ◌∙◌}
use mathlib.Core.Bool.{Bool, true, false, cond}
use mathlib.Core.List.{List, [], ◌∷◌, ◌++◌}
use mathlib.Core.Logic.{⊎_elim}
use native.Mathlib.Nat.{pow-suc, mod-one, mod-lt, mod-eq_of_lt, div-lt_iff_lt-mul, le-div_iff_mul-le, le-mul_of_pos_right, mul-le-mul_right, pow-le-pow_right}
use native.Mathlib.Omega.{arith}
use borrow.Author.Tests.{leb-true, lt-ltb, le-ltb, le-leb, ltb-true, ne_eqb, eqb-true, eqb-false}
use lib.Dec.{leb, eqb}
use lib.ListN.{drop}
use Rattle.paper.proofs.Tests.{split}
use Rattle.text.specs.Digits.{mark, run, places_in, places, digits, worth, digit, starts_digit, starts, got, no, fixed, scan, decimal}
use Rattle.text.proofs.Marks.{worth_mark, digit_mark, mark_worth, mark_nought}
use Rattle.text.proofs.Runs.{never, power_pos, shift, below_more, last_more, run_suc, run_cons, run_fixed}

-- ---- the fewest digits

-- k + 1 is the fewest digits of n
pub data Fewest (n : ℕ) : ℕ → Type 0 where
  nought : n ≡ 0 → Fewest n 0
  some : {k : ℕ} → 10 ^ k ≤ n → n < 10 ^ suc k → Fewest n k

one_less : (n k : ℕ) → 10 ^ suc k ≤ n → n < 10 ^ suc (suc k) → Fewest (n / 10) k
one_less n k a b =
    let p = pow-suc 10 k in
    let q = pow-suc 10 (suc k) in
    let t : 0 < 10 = omega arith in
    some {k = k} ((le-div_iff_mul-le t).1 (omega arith)) ((div-lt_iff_lt-mul t).1 (omega arith))

one_more : (n k : ℕ) → 10 ≤ n → Fewest (n / 10) k → Fewest n (suc k)
one_more n k h (nought e) = absurd (let bad : ⊥ = omega arith in bad)
one_more n k h (some a b) =
    let p = pow-suc 10 k in
    let q = pow-suc 10 (suc k) in
    some {k = suc k} (omega arith) (omega arith)

ten_power : (k : ℕ) → 10 ≤ 10 ^ suc k
ten_power k = omega (arith, pow-suc 10 k, power_pos 10 k (omega arith))

in_turns : (turns n k : ℕ) → n ≤ turns → Fewest n k → places_in turns n ≡ suc k
unfolding places_in
in_turns zero n zero h f = refl
in_turns zero n (suc k) h (some a b) = absurd (let bad : ⊥ = omega (arith, ten_power k) in bad)
in_turns (suc turns) n zero h (nought e) = rw (lt-ltb n 10 (omega arith))
in_turns (suc turns) n zero h (some a b) = rw (lt-ltb n 10 (omega arith))
in_turns (suc turns) n (suc k) h (some a b) =
    let t = ten_power k in
    rw (le-ltb n 10 (omega arith)) (ap suc (in_turns turns (n / 10) k (omega arith) (one_less n k a b)))

pub places_fewest : (n k : ℕ) → Fewest n k → places n ≡ suc k
places_fewest n k f = in_turns n n k (omega arith) f

pub record HasFewest (n : ℕ) : Type 0 where
  pub k : ℕ
  pub fewest : Fewest n k

has_in : (turns n : ℕ) → n ≤ turns → HasFewest n
has_in zero n h = record { k = 0; fewest = nought (omega arith) }
has_in (suc turns) n h =
    ⊎_elim (λ l. let r = has_in turns (n / 10) (omega arith) in record { k = suc r.k; fewest = one_more n r.k l r.fewest })
    (λ l. ⊎_elim (λ z. record { k = 0; fewest = nought (omega arith) })
    (λ z. record { k = 0; fewest = some {k = 0} (omega arith) (omega arith) }) (split n 0))
    (split 10 n)

pub has_fewest : (n : ℕ) → HasFewest n
has_fewest n = has_in n n (omega arith)

pub digits_fewest : (n k : ℕ) → Fewest n k → digits n ≡ run 10 (suc k) n
digits_fewest n k f = ap (λ (j : ℕ). run 10 j n) (places_fewest n k f)

-- one digit; and one more than a tenth of the number takes
pub places_one : (n : ℕ) → n < 10 → places n ≡ 1
places_one n h = let r = has_fewest n in go r.k r.fewest
  where
    go : (k : ℕ) → Fewest n k → places n ≡ 1
    go zero f = places_fewest n 0 f
    go (suc k) (some a b) = absurd (let bad : ⊥ = omega (arith, ten_power k) in bad)

pub places_more : (n : ℕ) → 10 ≤ n → places n ≡ suc (places (n / 10))
places_more n h =
    let r = has_fewest (n / 10) in
    places_fewest n (suc r.k) (one_more n r.k h r.fewest) ∙ ap suc (sym (places_fewest (n / 10) r.k r.fewest))

-- a number of a u64 takes at most twenty
pub places_most : (n : ℕ) → n < 2 ^ 64 → places n ≤ 20
places_most n h = let r = has_fewest n in go r.k r.fewest
  where
    go : (k : ℕ) → Fewest n k → places n ≤ 20
    go k (nought e) = omega (arith, places_fewest n 0 (nought e))
    go k (some a b) =
        ⊎_elim (λ l. omega (arith, places_fewest n k (some a b))) (λ l. absurd (large l)) (split k 19)
      where
        large : 19 < k → ⊥
        large l =
            let z : 0 < 10 = omega arith in
            let q : 10 ^ 20 ≤ 10 ^ k = pow-le-pow_right z l in
            omega arith

-- ---- all digits that follow

-- all the digits that were written are read, and reading stops right after them
stop : (limit v : ℕ) (s : List ℕ) → starts_digit s ≡ false → scan limit v s ≡ got v s
stop limit v [] f = refl
stop limit v (b ∷ s) f = rw f

small : (a p r limit : ℕ) → 0 < p → a * p + r ≤ limit → a ≤ limit
small a p r limit h m = let l : a ≤ a * p = le-mul_of_pos_right a h in omega arith

pub scan_run : (limit k v n : ℕ) (s : List ℕ) → v * 10 ^ k + n % 10 ^ k ≤ limit → starts_digit s ≡ false
    → scan limit v (run 10 k n ++ s) ≡ got (v * 10 ^ k + n % 10 ^ k) s
unfolding run
scan_run limit zero v n s m f =
    let e : v ≡ v * 10 ^ 0 + n % 10 ^ 0 = omega (arith, mod-one n) in
    stop limit v s f ∙ ap (λ (x : ℕ). got x s) e
scan_run limit (suc k) v n s m f =
    let z : 0 < 10 = omega arith in
    let d = n / 10 ^ k % 10 in
    let l : d < 10 = mod-lt (n / 10 ^ k) z in
    let l' : d < 16 = omega arith in
    let e : (v * 10 + d) * 10 ^ k + n % 10 ^ k ≡ v * 10 ^ suc k + n % 10 ^ suc k =
    shift v d (10 ^ k) (n % 10 ^ k) (n % 10 ^ suc k) 10 (sym (last_more n 10 k z)) ∙ ap (λ (x : ℕ). v * x + n % 10 ^ suc k) (sym (pow-suc 10 k)) in
    let m' : (v * 10 + d) * 10 ^ k + n % 10 ^ k ≤ limit = omega arith in
    let t : leb (v * 10 + d) limit ≡ true = le-leb (v * 10 + d) limit (small (v * 10 + d) (10 ^ k) (n % 10 ^ k) limit (power_pos 10 k z) m') in
    let b : 10 ≤ 16 = omega arith in
    rw (digit_mark 10 d b l, worth_mark d l', t) (scan_run limit k (v * 10 + d) n s m' f ∙ ap (λ (x : ℕ). got x s) e)

-- whatever is read so is a run of k digits for some k, with no digit after it
pub record Scanned (limit v : ℕ) (s : List ℕ) (w : ℕ) (t : List ℕ) : Type 0 where
  pub k : ℕ
  pub same : fixed 10 k v s ≡ got w t
  pub most : w ≤ limit
  pub ends : starts_digit t ≡ false

pub scanned : (limit v : ℕ) (s : List ℕ) (w : ℕ) (t : List ℕ) → v ≤ limit → scan limit v s ≡ got w t → Scanned limit v s w t
scanned limit v [] w t h e =
    let a : v ≡ w = cc in
    let b : [] ≡ t = cc in
    record { k = 0; same = e; most = omega arith; ends = ap starts_digit (sym b) }
scanned limit v (b ∷ s) w t h e = go (digit 10 b) refl (leb (v * 10 + worth b) limit) refl (scanned limit (v * 10 + worth b) s w t) e
  where
    go : (f : Bool) → digit 10 b ≡ f → (g : Bool) → leb (v * 10 + worth b) limit ≡ g
        → (v * 10 + worth b ≤ limit → scan limit (v * 10 + worth b) s ≡ got w t → Scanned limit (v * 10 + worth b) s w t)
        → cond f (cond g (scan limit (v * 10 + worth b) s) no) (got v (b ∷ s)) ≡ got w t → Scanned limit v (b ∷ s) w t
    go false f g _ ih e =
        let a : v ≡ w = cc in
        let r : b ∷ s ≡ t = cc in
        record { k = 0; same = e; most = omega arith; ends = ap starts_digit (sym r) ∙ f }
    go true f false _ ih e = absurd (never e)
    go true f true l ih e =
        let r = ih (leb-true (v * 10 + worth b) limit l) e in
        record { k = suc r.k; same = rw f r.same; most = r.most; ends = r.ends }

-- ---- the cases of a decimal number

module _ (limit : ℕ) (s : List ℕ) where
  pub decimal_led : starts 48 s ≡ true → starts_digit (drop 1 s) ≡ true → decimal limit s ≡ no
  unfolding decimal
  decimal_led z f = rw (z, f)

  pub decimal_nought : starts 48 s ≡ true → starts_digit (drop 1 s) ≡ false → decimal limit s ≡ got 0 (drop 1 s)
  unfolding decimal
  decimal_nought z f = rw (z, f)

  pub decimal_scan : starts 48 s ≡ false → starts_digit s ≡ true → decimal limit s ≡ scan limit 0 s
  unfolding decimal
  decimal_scan z d = rw (z, d)

  pub decimal_other : starts 48 s ≡ false → starts_digit s ≡ false → decimal limit s ≡ no
  unfolding decimal
  decimal_other z d = rw (z, d)

-- ---- the two laws

mark_zero : mark 0 ≡ 48
unfolding mark
mark_zero = refl

run_zero : run 10 1 0 ≡ 48 ∷ []
unfolding run mark
run_zero = refl

module _ (limit n : ℕ) (s : List ℕ) (h : n ≤ limit) (f : starts_digit s ≡ false) where
  decimal_fewest : (k : ℕ) → Fewest n k → decimal limit (run 10 (suc k) n ++ s) ≡ got n s
  decimal_fewest k (nought e) = rw (e, run_zero, decimal_nought limit (48 ∷ s) refl f)
  decimal_fewest k (some a b) =
      let z : 0 < 10 = omega arith in
      let d = n / 10 ^ k % 10 in
      let l : n / 10 ^ k < 10 = (div-lt_iff_lt-mul (power_pos 10 k z)).1 (omega (arith, pow-suc 10 k)) in
      let p : 1 ≤ n / 10 ^ k = (le-div_iff_mul-le (power_pos 10 k z)).1 (omega arith) in
      let e : d ≡ n / 10 ^ k = mod-eq_of_lt l in
      let m : n % 10 ^ suc k ≡ n = mod-eq_of_lt b in
      let l' : d < 16 = omega arith in
      let t : 10 ≤ 16 = omega arith in
      let q : eqb (mark d) 48 ≡ false = ne_eqb (mark d) 48 (λ x. omega (arith, mark_nought d l' x)) in
      let u : 0 * 10 ^ suc k + n % 10 ^ suc k ≤ limit = omega arith in
      let v : 0 * 10 ^ suc k + n % 10 ^ suc k ≡ n = omega arith in
      ap (λ (x : List ℕ). decimal limit (x ++ s)) (run_suc 10 k n)
      ∙ decimal_scan limit (mark d ∷ (run 10 k n ++ s)) q (digit_mark 10 d t (omega arith))
      ∙ ap (λ (x : List ℕ). scan limit 0 (x ++ s)) (sym (run_suc 10 k n))
      ∙ scan_run limit (suc k) 0 n s u f ∙ ap (λ (x : ℕ). got x s) v

  -- reading what was written gives the number, and stops right after it
  pub decimal_digits : decimal limit (digits n ++ s) ≡ got n s
  decimal_digits =
      let w = has_fewest n in
      ap (λ (x : List ℕ). decimal limit (x ++ s)) (digits_fewest n w.k w.fewest) ∙ decimal_fewest w.k w.fewest

-- what is read is the writing of the number, with no digit after it
pub record Decimal (limit : ℕ) (s : List ℕ) (n : ℕ) (t : List ℕ) : Type 0 where
  pub most : n ≤ limit
  pub text : s ≡ digits n ++ t
  pub ends : starts_digit t ≡ false

module _ (limit b : ℕ) (s : List ℕ) (n : ℕ) (t : List ℕ) where
  as_nought : b ≡ 48 → starts_digit s ≡ false → got 0 s ≡ got n t → Decimal limit (b ∷ s) n t
  as_nought e f q =
      let a : 0 ≡ n = cc in
      let r : s ≡ t = cc in
      let w : digits 0 ≡ 48 ∷ [] = digits_fewest 0 0 (nought refl) ∙ run_zero in
      record { most = omega arith; text = rw (e, ← a, w, r); ends = rw r at f }

  as_scanned : (b ≡ 48 → ⊥) → digit 10 b ≡ true → (u : Scanned limit (0 * 10 + worth b) s n t) → Decimal limit (b ∷ s) n t
  as_scanned ne f u =
      let d = worth b in
      let k = u.k in
      let l : d < 10 = ltb-true d 10 f in
      let l' : d < 16 = omega arith in
      let g : mark d ≡ b = mark_worth b l' in
      let one : 1 ≤ d = ⊎_elim (λ z. absurd (ne (sym g ∙ ap mark (at_zero z) ∙ mark_zero))) (λ z. z) (split d 0) in
      let r = run_fixed 10 k (0 * 10 + d) s n t (omega arith) u.same in
      let v : n ≡ d * 10 ^ k + r.n = r.value ∙ ap (λ (x : ℕ). x * 10 ^ k + r.n) (plain d) in
      let lo : 10 ^ k ≤ n = at_least d (10 ^ k) r.n n one v in
      let hi : n < 10 ^ suc k = omega (arith, below_more d (10 ^ k) r.n 10 l r.small, pow-suc 10 k) in
      let w : digits n ≡ mark d ∷ run 10 k r.n = digits_fewest n k (some lo hi) ∙ ap (run 10 (suc k)) v ∙ run_cons 10 k d r.n l r.small in
      record { most = u.most; text = rw (w, g, ← r.text); ends = u.ends }
    where
      plain : (d : ℕ) → 0 * 10 + d ≡ d
      plain d = omega arith

      at_zero : {d : ℕ} → d ≤ 0 → d ≡ 0
      at_zero h = omega arith

      at_least : (d p m n : ℕ) → 1 ≤ d → n ≡ d * p + m → p ≤ n
      at_least d p m n h e = let l : 1 * p ≤ d * p = mul-le-mul_right p h in omega arith

  as_read : (z : Bool) → eqb b 48 ≡ z → (f : Bool) → digit 10 b ≡ f → (m : Bool) → starts_digit s ≡ m → decimal limit (b ∷ s) ≡ got n t → Decimal limit (b ∷ s) n t
  as_read true z f d true m e =
      let x = eqb-true b 48 z in
      absurd (never (sym (decimal_led limit (48 ∷ s) refl m) ∙ ap (λ (y : ℕ). decimal limit (y ∷ s)) (sym x) ∙ e))
  as_read true z f d false m e =
      let x = eqb-true b 48 z in
      as_nought x m (sym (decimal_nought limit (48 ∷ s) refl m) ∙ ap (λ (y : ℕ). decimal limit (y ∷ s)) (sym x) ∙ e)
  as_read false z false d m _ e = absurd (never (sym (decimal_other limit (b ∷ s) z d) ∙ e))
  as_read false z true d m _ e = go (leb (0 * 10 + worth b) limit) refl
    where
      at_first : scan limit 0 (b ∷ s) ≡ cond (leb (0 * 10 + worth b) limit) (scan limit (0 * 10 + worth b) s) no
      at_first = rw d

      go : (g : Bool) → leb (0 * 10 + worth b) limit ≡ g → Decimal limit (b ∷ s) n t
      go false g = absurd (never (sym (at_first ∙ rw g) ∙ sym (decimal_scan limit (b ∷ s) z d) ∙ e))
      go true g =
          as_scanned (eqb-false b 48 z) d
          (scanned limit (0 * 10 + worth b) s n t (leb-true (0 * 10 + worth b) limit g) (sym (at_first ∙ rw g) ∙ sym (decimal_scan limit (b ∷ s) z d) ∙ e))

pub digits_decimal : (limit : ℕ) (s : List ℕ) (n : ℕ) (t : List ℕ) → decimal limit s ≡ got n t → Decimal limit s n t
digits_decimal limit [] n t e = absurd (never (sym (decimal_other limit [] refl refl) ∙ e))
digits_decimal limit (b ∷ s) n t e = as_read limit b s n t (eqb b 48) refl (digit 10 b) refl (starts_digit s) refl e

-- two texts that read to the same number, with the same rest, are the same text
pub decimal_one : (limit : ℕ) (s s' : List ℕ) (n : ℕ) (t : List ℕ) → decimal limit s ≡ got n t → decimal limit s' ≡ got n t → s ≡ s'
decimal_one limit s s' n t e e' = (digits_decimal limit s n t e).text ∙ sym (digits_decimal limit s' n t e').text

-- a text that is refused is the writing of no number within the limit, with no digit after it
pub decimal_none : (limit : ℕ) (s : List ℕ) → decimal limit s ≡ no → (n : ℕ) (t : List ℕ) → n ≤ limit → starts_digit t ≡ false → s ≡ digits n ++ t → ⊥
decimal_none limit s e n t h f q = never (sym e ∙ ap (decimal limit) q ∙ decimal_digits limit n t h f)
