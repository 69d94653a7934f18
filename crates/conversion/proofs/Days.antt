-- BS dates and day numbers, for every calendar: what converts, both ways, and where a day lies. Assumes nothing.
use Rattle.std.specs.Prelude.{Err, Ok}
use Prim.Native.Nat.{ℕ, ◌+◌, ◌-◌, ◌≤◌, ◌<◌}
use mathlib.Core.Path.{◌≡◌, refl, sym, ap, ◌∙◌}
use mathlib.Core.Bool.{Bool, true, false, ◌&&◌, cond}
use mathlib.Core.Logic.{inl, inr, ⊎_elim}
use native.Mathlib.Omega.{arith}
use borrow.Author.Tests.{leb-true, le-leb, ltb-true, lt-ltb, le-ltb}
use lib.Dec.{leb, ltb}
use Rattle.paper.specs.declared.Refusal.TheVariants.{BadTable, NoYear, NoMonth, NoDay, Before, After}
use Rattle.paper.specs.declared.Refusal.{Refusal}
use Rattle.paper.specs.Answers.{Answer, given, then}
use Rattle.paper.specs.Refusals.{number}
use Rattle.paper.specs.Sums.{sum}
use Rattle.paper.proofs.Answers.{answered_same, refused_answered, given_answered, given_then, given_on, given_off, then_answered}
use Rattle.paper.proofs.Days.{same_before, same_after, after_before, before_after}
use Rattle.paper.proofs.Sums.{sum_past}
use Rattle.paper.proofs.Tests.{and_left, and_right, and_both, and_never, split}
use Rattle.gregorian.specs.declared.Date.{Date}
use Rattle.gregorian.proofs.Laws.{three}
use Rattle.conversion.specs.declared.BsDate.{BsDate}
use Rattle.conversion.specs.Calendar.{Calendar, last, bs, numbers, EarlierBs, year_len, end, year_ok, month_ok, day_ok, of_month, of_date, day_at, date_at, date_in_year, date_after, month_len, valid_bs, to_day, outside, from_day}
use Rattle.conversion.proofs.Places.{Within, last_within, last_is}

-- ---- a year of the calendar, told by the test, and by its place from the first
pub year_told : (c : Calendar) (y : ℕ) → year_ok c y ≡ true → (c.first ≤ y) × (y < c.first + c.years)
year_told c y e = (leb-true _ _ (and_left (leb c.first y) _ e), ltb-true _ _ (and_right (leb c.first y) _ e))

-- ---- a month of the calendar
pub record InTable (c : Calendar) (y m : ℕ) : Type 0 where
  pub good : c.good ≡ true
  pub year_from : c.first ≤ y
  pub year_to : y < c.first + c.years
  pub month_from : 1 ≤ m
  pub month_to : m ≤ 12

-- a question about a month: what is refused, and what is left
module _ {A : Type 0} (c : Calendar) (y m : ℕ) (a : Answer A) where
  pub no_table : c.good ≡ false → of_month c y m a ≡ Err BadTable
  no_table g = given_off c.good BadTable _ g

  pub no_year : c.good ≡ true → (c.first ≤ y → y < c.first + c.years → ⊥) → of_month c y m a ≡ Err NoYear
  no_year g h =
      given_on c.good BadTable _ g ∙ given_off (year_ok c y) NoYear _ (and_never _ _ (λ p q. h (leb-true _ _ p) (ltb-true _ _ q)))

  pub no_month : c.good ≡ true → c.first ≤ y → y < c.first + c.years → (1 ≤ m → m ≤ 12 → ⊥) → of_month c y m a ≡ Err NoMonth
  no_month g f t h =
      given_on c.good BadTable _ g
      ∙ given_on (year_ok c y) NoYear _ (and_both _ _ (le-leb _ _ f) (lt-ltb _ _ t))
      ∙ given_off (month_ok m) NoMonth _ (and_never _ _ (λ p q. h (leb-true _ _ p) (leb-true _ _ q)))

  pub of_month_law : InTable c y m → of_month c y m a ≡ a
  of_month_law k =
      given_on c.good BadTable _ k.good
      ∙ given_on (year_ok c y) NoYear _ (and_both _ _ (le-leb _ _ k.year_from) (lt-ltb _ _ k.year_to))
      ∙ given_on (month_ok m) NoMonth _ (and_both _ _ (le-leb _ _ k.month_from) (le-leb _ _ k.month_to))

  pub in_month_law : {x : A} → of_month c y m a ≡ Ok x → InTable c y m × (a ≡ Ok x)
  in_month_law e =
      let p = given_answered c.good _ _ e in
      let q = given_answered (year_ok c y) _ _ p.1 in
      let r = given_answered (month_ok m) _ _ q.1 in
      let t = year_told c y q.0 in (
        record {
          good = p.0;
          year_from = t.0;
          year_to = t.1;
          month_from = leb-true _ _ (and_left (leb 1 m) _ r.0);
          month_to = leb-true _ _ (and_right (leb 1 m) _ r.0);
        },
        r.1,
      )

-- the length of a month tells that there is one
pub len_told : (c : Calendar) (y m n : ℕ) → Ok n ≡ month_len c y m → InTable c y m × (c.len (y - c.first) (m - 1) ≡ n)
unfolding month_len
len_told c y m n e = let k = in_month_law c y m _ (sym e) in (k.0, answered_same k.1)

-- ---- a date of the calendar
pub record Valid (c : Calendar) (y m d : ℕ) : Type 0 where
  pub month : InTable c y m
  pub day_from : 1 ≤ d
  pub day_to : d ≤ c.len (y - c.first) (m - 1)

-- a question about a date: what is refused, and what is answered
module _ {A : Type 0} (c : Calendar) (y m d : ℕ) (x : A) where
  pub no_day_law : InTable c y m → (1 ≤ d → d ≤ c.len (y - c.first) (m - 1) → ⊥) → of_date c y m d x ≡ Err NoDay
  no_day_law k h =
      of_month_law c y m _ k ∙ given_off (day_ok c y m d) NoDay _ (and_never _ _ (λ p q. h (leb-true _ _ p) (leb-true _ _ q)))

  pub of_date_law : Valid c y m d → of_date c y m d x ≡ Ok x
  of_date_law v =
      of_month_law c y m _ v.month ∙ given_on (day_ok c y m d) NoDay _ (and_both _ _ (le-leb _ _ v.day_from) (le-leb _ _ v.day_to))

  pub in_date : {z : A} → of_date c y m d x ≡ Ok z → Valid c y m d × (x ≡ z)
  in_date e =
      let p = in_month_law c y m _ e in
      let q = given_answered (day_ok c y m d) _ _ p.1 in (
        record {
          month = p.0;
          day_from = leb-true _ _ (and_left (leb 1 d) _ q.0);
          day_to = leb-true _ _ (and_right (leb 1 d) _ q.0);
        },
        answered_same q.1,
      )

  -- by way of the length of the month; by way of whether it is a date at all
  pub by_len : of_date c y m d x ≡ then (month_len c y m) (λ n. given (leb 1 d && leb d n) NoDay (Ok x))
  unfolding month_len
  by_len = simp (given_then, then_answered)

  pub by_valid : of_date c y m d x ≡ then (valid_bs c y m d) (λ u. Ok x)
  unfolding valid_bs
  by_valid = simp (given_then, then_answered)

  pub len_refused : (k : Refusal) → Err k ≡ month_len c y m → Err k ≡ of_date c y m d x
  len_refused k e = rw (by_len, ← e) refl

  pub valid_refused : (k : Refusal) → Err k ≡ valid_bs c y m d → Err k ≡ of_date c y m d x
  valid_refused k e = rw (by_valid, ← e) refl

-- a date that one question refuses every other refuses
pub date_refused : {A B : Type 0} (c : Calendar) (y m d : ℕ) (x : A) (z : B) (k : Refusal) → Err k ≡ of_date c y m d x → Err k ≡ of_date c y m d z
date_refused {A} {B} c y m d x z k e = go (valid_bs c y m d) (e ∙ by_valid c y m d x) ∙ sym (by_valid c y m d z)
  where
    go : (a : Answer Unit) → Err k ≡ then a (λ u. Ok x) → Err k ≡ then a (λ u. Ok z)
    go (Ok u) q = absurd (refused_answered (sym q) refl)
    go (Err j) q = let h : k ≡ j = cc in ap Err h

pub valid_told : (c : Calendar) (y m d : ℕ) → Ok tt ≡ valid_bs c y m d → Valid c y m d
unfolding valid_bs
valid_told c y m d e = (in_date c y m d tt (sym e)).0

-- exactly the dates have a number
pub converts : (c : Calendar) (y m d : ℕ) → Valid c y m d → to_day c y m d ≡ Ok (day_at c (y - c.first) (m - 1) (d - 1))
unfolding to_day
converts c y m d v = of_date_law c y m d _ v

pub converted : (c : Calendar) (y m d n : ℕ) → to_day c y m d ≡ Ok n → Valid c y m d
unfolding to_day
converted c y m d n e = (in_date c y m d _ e).0

-- ---- a day of the table
pub record OnTable (c : Calendar) (n : ℕ) : Type 0 where
  pub good : c.good ≡ true
  pub from : c.start ≤ n
  pub to : n < end c

-- exactly these convert back
pub found : (c : Calendar) (n : ℕ) → OnTable c n → from_day c n ≡ Ok (date_after c (n - c.start))
unfolding from_day
found c n t = simp (t.good, le-leb _ _ t.from, lt-ltb _ _ t.to)

pub on_table : (c : Calendar) (n : ℕ) (t : BsDate) → from_day c n ≡ Ok t → OnTable c n
unfolding from_day
on_table c n t e =
    let a = given_answered c.good _ _ e in
    let b = given_answered _ _ _ a.1 in
    record {
      good = a.0;
      from = leb-true _ _ (and_left (leb c.start n) _ b.0);
      to = ltb-true _ _ (and_right (leb c.start n) _ b.0);
    }

-- and no others
pub from_outside : (c : Calendar) (n : ℕ) → c.good ≡ true → (OnTable c n → ⊥) → from_day c n ≡ Err (outside c n)
unfolding from_day
from_outside c n g h =
    given_on c.good BadTable _ g
    ∙ given_off _ (outside c n) _ (and_never _ _ (λ p q. h (record { good = g; from = leb-true _ _ p; to = ltb-true _ _ q })))

-- a day by its year, and by what is left in that year
module _ (c : Calendar) (i r n : ℕ) (hi : i < c.years) (hr : r < year_len c i) (e : c.start + sum (year_len c) i + r ≡ n) where
  in_year : date_after c (n - c.start) ≡ date_in_year c i r
  in_year =
      let a : n - c.start ≡ sum (year_len c) i + r = omega arith in
      let b : sum (year_len c) i + r - sum (year_len c) i ≡ r = omega arith in
      let w : Within (year_len c) c.years (sum (year_len c) i + r) i = record { below = hi; from = omega arith; to = omega arith } in
      rw (a, last_is (year_len c) c.years _ i w, b)

  before_end : n < end c
  before_end = omega (arith, sum_past (year_len c) i c.years hi)

  pub from_in : c.good ≡ true → from_day c n ≡ Ok (date_in_year c i r)
  from_in g = found c n (record { good = g; from = omega arith; to = before_end }) ∙ ap Ok in_year

-- the date in a year
pub date_is : (c : Calendar) (i m d r : ℕ) → Within (c.len i) 12 r m → r ≡ sum (c.len i) m + d → date_in_year c i r ≡ date_at c i m d
date_is c i m d r w e =
    let a : r - sum (c.len i) m ≡ d = omega arith in
    rw (last_is (c.len i) 12 r m w, a)

module _ (c : Calendar) (i m d : ℕ) (hi : i < c.years) (hm : m < 12) (hd : d < c.len i m) where
  pub from_at : c.good ≡ true → from_day c (day_at c i m d) ≡ Ok (date_at c i m d)
  from_at g =
      let r = sum (c.len i) m + d in
      let w : Within (c.len i) 12 r m = record { below = hm; from = omega arith; to = omega arith } in
      let l : r < year_len c i = omega (arith, sum_past (c.len i) m 12 hm) in
      from_in c i r (day_at c i m d) hi l (omega arith) g ∙ ap Ok (date_is c i m d r w (omega arith))

  pub to_at : c.good ≡ true → to_day c (c.first + i) (m + 1) (d + 1) ≡ Ok (day_at c i m d)
  to_at g =
      let e : c.first + i - c.first ≡ i = omega arith in
      let f : m + 1 - 1 ≡ m = omega arith in
      let h : d + 1 - 1 ≡ d = omega arith in
      let k : InTable c (c.first + i) (m + 1) = record {
        good = g;
        year_from = omega arith;
        year_to = omega arith;
        month_from = omega arith;
        month_to = omega arith;
      } in
      let v : Valid c (c.first + i) (m + 1) (d + 1) = record { month = k; day_from = omega arith; day_to = rw (e, f) (omega arith) } in
      rw (e, f, h) at (converts c _ _ _ v)

-- a date's day is one of the table
pub valid_on : (c : Calendar) (y m d : ℕ) → Valid c y m d → OnTable c (day_at c (y - c.first) (m - 1) (d - 1))
valid_on c y m d v =
    let i = y - c.first in
    record {
      good = v.month.good;
      from = omega arith;
      to = omega (arith, sum_past (c.len i) (m - 1) 12 (omega arith), sum_past (year_len c) i c.years (omega arith));
    }

-- ---- there and back
pub number_of : (c : Calendar) (y m d n : ℕ) → to_day c y m d ≡ Ok n → n ≡ day_at c (y - c.first) (m - 1) (d - 1)
number_of c y m d n e = answered_same (sym e ∙ converts c y m d (converted c y m d n e))

pub from_to : (c : Calendar) (y m d n : ℕ) → to_day c y m d ≡ Ok n → from_day c n ≡ Ok (bs y m d)
from_to c y m d n e =
    let v = converted c y m d n e in
    let a : c.first + (y - c.first) ≡ y = omega (arith, v.month) in
    let b : m - 1 + 1 ≡ m = omega (arith, v.month) in
    let f : d - 1 + 1 ≡ d = omega arith in
    rw (a, b, f) at (rw (← number_of c y m d n e) at (from_at c (y - c.first) (m - 1) (d - 1) (omega (arith, v.month)) (omega (arith, v.month)) (omega arith) v.month.good))

pub to_from : (c : Calendar) (n : ℕ) (t : BsDate) → from_day c n ≡ Ok t → to_day c t.year t.month t.day ≡ Ok n
to_from c n t e =
    let o = on_table c n t e in
    let q : date_after c (n - c.start) ≡ t = answered_same (sym (found c n o) ∙ e) in
    let r = n - c.start in
    let i = last (year_len c) c.years r in
    let s = r - sum (year_len c) i in
    let m = last (c.len i) 12 s in
    let v : Within (year_len c) c.years r i = last_within (year_len c) c.years r (omega arith) in
    let w : Within (c.len i) 12 s m = last_within (c.len i) 12 s (omega arith) in
    let d = s - sum (c.len i) m in
    let g : day_at c i m d ≡ n = omega arith in
    rw (← q) (to_at c i m d v.below w.below (omega arith) o.good ∙ ap Ok g)

-- the same numbers are the same date
same_date_law : (c : Calendar) (s t : BsDate) → numbers s ≡ numbers t → to_day c s.year s.month s.day ≡ to_day c t.year t.month t.day
same_date_law c s t q = ap (λ (x : Date). to_day c x.year x.month x.day) q

-- ---- in order
pub to_order : (c : Calendar) (s t : BsDate) (n k : ℕ) → to_day c s.year s.month s.day ≡ Ok n → to_day c t.year t.month t.day ≡ Ok k → EarlierBs s t → n < k
to_order c s t n k e f h =
    let v = converted c _ _ _ n e in
    let w = converted c _ _ _ k f in
    let a = number_of c _ _ _ n e in
    let b = number_of c _ _ _ k f in
    let i = s.year - c.first in
    elim h [
      | inl l ↦ omega (arith, v.month, w.month, sum_past (c.len i) (s.month - 1) 12 (omega (arith, v.month)), sum_past (year_len c) i (t.year - c.first) (omega (arith, v.month, l)))
      | inr (y, inl l) ↦
          let b' = rw (← y) at b in
          omega (arith, v.month, sum_past (c.len i) (s.month - 1) (t.month - 1) (omega (arith, v.month, l)))
      | inr (y, inr (m, l)) ↦
          let b' = rw (← y, ← m) at b in
          omega arith
    ]

pub from_order : (c : Calendar) (s t : BsDate) (n k : ℕ) → from_day c n ≡ Ok s → from_day c k ≡ Ok t → n < k → EarlierBs s t
from_order c s t n k e f h =
    let a = to_from c n s e in
    let b = to_from c k t f in
    elim (three (numbers s) (numbers t)) [
      | inl l ↦ l
      | inr (inl q) ↦ absurd (let z : n ≡ k = answered_same (sym a ∙ same_date_law c s t q ∙ b) in omega arith)
      | inr (inr l) ↦ absurd (let z : k < n = to_order c t s k n b a l in omega arith)
    ]

-- ---- how far outside
module _ (c : Calendar) (n : ℕ) (g : c.good ≡ true) where
  pub from_before : n < c.start → from_day c n ≡ Err (Before (c.start - n))
  unfolding outside
  from_before h = from_outside c n g (λ o. omega (arith, o.from)) ∙ ap Err (simp (lt-ltb _ _ h))

  pub from_after : end c ≤ n → from_day c n ≡ Err (After (n - end c + 1))
  unfolding outside
  from_after h = let a : c.start ≤ n = omega arith in from_outside c n g (λ o. omega (arith, o.to)) ∙ ap Err (simp (le-ltb _ _ a))

  pub from_past : (r : ℕ) → end c + r ≡ n → from_day c n ≡ Err (After (r + 1))
  from_past r e = let q : n - end c ≡ r = omega arith in from_after (omega arith) ∙ rw q

  -- what is told is exact
  pub before_told : (k : ℕ) → from_day c n ≡ Err (Before k) → (n + k ≡ c.start) × (n < c.start)
  before_told k e =
      ⊎_elim
      (λ l. ⊎_elim
      (λ m. absurd (let z = after_before (sym (from_after m) ∙ e) in let q : ⊥ = omega arith in q))
      (λ m. absurd (refused_answered e (found c n (record { good = g; from = l; to = m })))) (split (end c) n))
      (λ l. let z = same_before (sym (from_before l) ∙ e) in (omega arith, l)) (split c.start n)

  pub after_told : (k : ℕ) → from_day c n ≡ Err (After k) → (n + 1 ≡ end c + k) × (end c ≤ n)
  after_told k e =
      ⊎_elim
      (λ l. ⊎_elim
      (λ m. let z = same_after (sym (from_after m) ∙ e) in (omega arith, m))
      (λ m. absurd (refused_answered e (found c n (record { good = g; from = l; to = m })))) (split (end c) n))
      (λ l. absurd (let z = before_after (sym (from_before l) ∙ e) in let q : ⊥ = omega arith in q)) (split c.start n)

pub outside_number : (c : Calendar) (n : ℕ) → number (outside c n) ≡ 7
unfolding outside
outside_number c n = go (ltb n c.start)
  where
    go : (b : Bool) → number (cond b (Before (c.start - n)) (After (n - end c + 1))) ≡ 7
    go true = refl
    go false = refl
