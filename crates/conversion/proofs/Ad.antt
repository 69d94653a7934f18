-- Gregorian dates and BS dates, for every calendar whose days are Gregorian dates, as those of every accepted table are. Assumes nothing.
use Rattle.std.specs.Prelude.{Err, Ok}
use Prim.Native.Nat.{ℕ, ◌+◌, ◌-◌, ◌≤◌, ◌<◌}
use mathlib.Core.Path.{◌≡◌, refl, sym, ap, ◌∙◌, subst, subst⁻¹}
use mathlib.Core.Bool.{Bool, true, false}
use mathlib.Core.List.{List}
use mathlib.Core.Logic.{⊎_elim, ◌↔◌}
use native.Mathlib.Nat.{le_trans}
use native.Mathlib.Omega.{arith}
use lib.Dec.{T}
use Rattle.paper.specs.declared.Refusal.TheVariants.{BadTable, NoSuchDate, Before, After}
use Rattle.paper.specs.declared.Refusal.{Refusal}
use Rattle.paper.specs.Refusals.{number}
use Rattle.paper.specs.Sums.{sum}
use Rattle.paper.proofs.Answers.{answered_same, given_answered, given_on, given_off, given_told, given_refused}
use Rattle.paper.proofs.Days.{same_number}
use Rattle.paper.proofs.Sums.{sum_past}
use Rattle.paper.proofs.Tests.{T_true, split}
use Rattle.gregorian.specs.declared.Date.{Date}
use Rattle.gregorian.specs.Calendar.{first_number, all_days, is_date, day_number, date_of, Earlier}
use Rattle.gregorian.specs.Answers.{numbered, number_answer}
use Rattle.gregorian.proofs.Laws.{IsReal, real_of, real_to, all_number, in_range_law, of_real, of_number, number_lt, earlier_of_lt}
use Rattle.conversion.specs.declared.Table.{Table}
use Rattle.conversion.specs.declared.BsDate.{BsDate}
use Rattle.conversion.specs.Calendar.{Calendar, end, bs, EarlierBs, day_at, valid_bs, to_day, outside, from_day, to_ad, from_ad}
use Rattle.conversion.specs.Flat.{date, first_day, lens, row_count, accepted, flat}
use Rattle.conversion.specs.Claims.{first_of, last_of, TableDay}
use Rattle.conversion.proofs.Rows.{row_lens}
use Rattle.conversion.specs.declared.check.Passed.{Passed}
use Rattle.conversion.specs.Inner.{untested, Begins, InRow, pass_answer}
use Rattle.conversion.proofs.Accepted.{facts, pass_is, row_reached, rows_before, valid_is}
use Rattle.conversion.proofs.Days.{Valid, valid_told, OnTable, found, from_outside, from_before, from_after, in_date, of_date_law, date_refused, converts, converted, valid_on, number_of, from_to, to_from, to_order, from_order}

-- a good calendar that has a day, and whose days are Gregorian dates
pub record Served (c : Calendar) : Type 0 where
  pub good : c.good ≡ true
  pub some : c.start < end c
  pub from : first_number ≤ c.start
  pub to : end c ≤ first_number + all_days

pub served : (t : Table) (rows : List ℕ) → accepted t rows ≡ true → Served (flat t rows)
served t rows e =
    let f = facts t rows e in
    let a = row_lens rows 0 0 (f.row 0 (omega (arith, f.frame))) (omega arith) in
    record {
      good = e;
      some = omega (arith, a.0, sum_past (lens rows 0) 0 12 (omega arith), sum_past (λ k. sum (lens rows k) 12) 0 (row_count rows) (omega (arith, f.frame)));
      from = omega (arith, f.frame);
      to = omega (arith, all_number);
    }

-- a day of the table is a date's
pub on_numbered : (c : Calendar) (n : ℕ) → Served c → OnTable c n → numbered n ≡ true
on_numbered c n s o = in_range_law n (le_trans s.from o.from) (omega (arith, s.to, o.to))

on_real : (c : Calendar) (n : ℕ) → Served c → OnTable c n → IsReal (date_of n) × (day_number (date_of n) ≡ n)
on_real c n s o = of_real n (le_trans s.from o.from) (omega (arith, s.to, o.to))

-- ---- what `from_ad` answers: for a date what `from_day` does
module _ (c : Calendar) (y m d : ℕ) where
  pub from_ad_law : c.good ≡ true → is_date y m d ≡ true → from_ad c y m d ≡ from_day c (day_number (date y m d))
  unfolding from_ad
  from_ad_law g e = given_on c.good BadTable _ g ∙ given_on (is_date y m d) NoSuchDate _ e

  pub ad_from : (t : BsDate) → from_ad c y m d ≡ Ok t → (is_date y m d ≡ true) × (from_day c (day_number (date y m d)) ≡ Ok t)
  unfolding from_ad
  ad_from t e = let a = given_answered c.good _ _ e in given_answered (is_date y m d) _ _ a.1

  -- what is refused with 7 is a date, and `from_day` refuses its day
  pub ad_refused : (k : Refusal) → c.good ≡ true → number k ≡ 7 → from_ad c y m d ≡ Err k
      → (is_date y m d ≡ true) × (from_day c (day_number (date y m d)) ≡ Err k)
  unfolding from_ad
  ad_refused k g n e = go (is_date y m d) refl
    where
      go : (b : Bool) → is_date y m d ≡ b → (is_date y m d ≡ true) × (from_day c (day_number (date y m d)) ≡ Err k)
      go true f = (f, sym (from_ad_law g f) ∙ e)
      go false f =
          absurd (let z = same_number (sym (given_on c.good BadTable _ g ∙ given_off (is_date y m d) NoSuchDate _ f) ∙ e) in let q : ⊥ = omega arith in q)

-- what `to_day` refuses `to_ad` refuses
pub refused_ad : (c : Calendar) (y m d : ℕ) (k : Refusal) → Err k ≡ to_day c y m d → Err k ≡ to_ad c y m d
unfolding to_day to_ad
refused_ad c y m d k e = date_refused c y m d _ _ k e

-- ---- the days of the table
pub is_real : (x : Date) → is_date x.year x.month x.day ≡ true → IsReal x
is_real x e = real_of x (subst⁻¹ T e tt)

module _ (c : Calendar) (s : Served c) where
  first_real : IsReal (first_of c) × (day_number (first_of c) ≡ c.start)
  first_real = on_real c c.start s (record { good = s.good; from = omega arith; to = s.some })

  last_real : IsReal (last_of c) × (day_number (last_of c) ≡ end c - 1)
  last_real = on_real c (end c - 1) s (record { good = s.good; from = omega (arith, s.some); to = omega (arith, s.some) })

  pub day_on_law : (x : Date) → TableDay c x → OnTable c (day_number x)
  day_on_law x d =
      let r = is_real x d.real in
      let f = first_real in
      let l = last_real in
      record {
        good = s.good;
        from = ⊎_elim (λ h. h) (λ h. absurd (d.from (earlier_of_lt x (first_of c) r f.0 (omega (arith, f.1))))) (split c.start (day_number x));
        to = ⊎_elim (λ h. absurd (d.to (earlier_of_lt (last_of c) x l.0 r (omega (arith, l.1, s.some))))) (λ h. h) (split (end c) (day_number x));
      }

  pub on_day : (x : Date) → is_date x.year x.month x.day ≡ true → OnTable c (day_number x) → TableDay c x
  on_day x e o =
      let r = is_real x e in
      let f = first_real in
      let l = last_real in
      record {
        real = e;
        from = λ h. omega (arith, o.from, f.1, number_lt x (first_of c) r f.0 h);
        to = λ h. omega (arith, o.to, l.1, number_lt (last_of c) x l.0 r h);
      }

  -- ---- what `to_ad` answers
  pub to_ad_law : (y m d : ℕ) → Valid c y m d → to_ad c y m d ≡ Ok (date_of (day_at c (y - c.first) (m - 1) (d - 1)))
  unfolding to_ad
  to_ad_law y m d v = of_date_law c y m d _ v

  pub ad_valid : (y m d : ℕ) (x : Date) → to_ad c y m d ≡ Ok x → Valid c y m d
  unfolding to_ad
  ad_valid y m d x e = (in_date c y m d _ e).0

  -- the answer is the date whose number `to_day` answers
  pub ad_number : (y m d : ℕ) (x : Date) → to_ad c y m d ≡ Ok x → (IsReal x) × (to_day c y m d ≡ Ok (day_number x))
  ad_number y m d x e =
      let v = ad_valid y m d x e in
      let q : date_of (day_at c (y - c.first) (m - 1) (d - 1)) ≡ x = answered_same (sym (to_ad_law y m d v) ∙ e) in
      let r = on_real c _ s (valid_on c y m d v) in
      (subst IsReal q r.0, converts c y m d v ∙ ap Ok (sym r.1 ∙ ap day_number q))

  pub number_ad : (y m d n : ℕ) → to_day c y m d ≡ Ok n → to_ad c y m d ≡ Ok (date_of n)
  number_ad y m d n e = to_ad_law y m d (converted c y m d n e) ∙ ap (λ (k : ℕ). Ok (date_of k)) (sym (number_of c y m d n e))

  pub number_numbered : (y m d n : ℕ) → to_day c y m d ≡ Ok n → numbered n ≡ true
  number_numbered y m d n e = subst⁻¹ (λ (k : ℕ). numbered k ≡ true) (number_of c y m d n e) (on_numbered c _ s (valid_on c y m d (converted c y m d n e)))

  -- it is a day of the table
  pub ad_table : (y m d : ℕ) (x : Date) → to_ad c y m d ≡ Ok x → TableDay c x
  ad_table y m d x e =
      let a = ad_number y m d x e in
      on_day x (T_true _ (real_to x a.0)) (subst⁻¹ (OnTable c) (number_of c y m d _ a.1) (valid_on c y m d (ad_valid y m d x e)))

  -- ---- there and back
  pub ad_to_from : (y m d : ℕ) (x : Date) → to_ad c y m d ≡ Ok x → from_ad c x.year x.month x.day ≡ Ok (bs y m d)
  ad_to_from y m d x e =
      let a = ad_number y m d x e in
      from_ad_law c _ _ _ s.good (T_true _ (real_to x a.0)) ∙ from_to c y m d _ a.1

  pub ad_from_to : (y m d : ℕ) (t : BsDate) → from_ad c y m d ≡ Ok t → to_ad c t.year t.month t.day ≡ Ok (date y m d)
  ad_from_to y m d t e =
      let a = ad_from c y m d t e in
      number_ad _ _ _ _ (to_from c _ t a.1) ∙ ap Ok (of_number (date y m d) (is_real (date y m d) a.0))

  -- ---- in order
  pub ad_order : (p q : BsDate) (a b : Date) → to_ad c p.year p.month p.day ≡ Ok a → to_ad c q.year q.month q.day ≡ Ok b → EarlierBs p q ↔ Earlier a b
  ad_order p q a b e f =
      let u = ad_number _ _ _ a e in
      let v = ad_number _ _ _ b f in (
        (λ h. earlier_of_lt a b u.0 v.0 (to_order c p q _ _ u.1 v.1 h)),
        (λ h. from_order c p q _ _ (from_to c _ _ _ _ u.1) (from_to c _ _ _ _ v.1) (number_lt a b u.0 v.0 h)),
      )

  -- ---- a date outside the table
  pub ad_outside : (y m d : ℕ) → is_date y m d ≡ true → (TableDay c (date y m d) → ⊥) → from_ad c y m d ≡ Err (outside c (day_number (date y m d)))
  ad_outside y m d e h =
      from_ad_law c y m d s.good e ∙ from_outside c _ s.good (λ o. h (on_day (date y m d) e o))

  -- by how many days
  pub ad_before : (y m d : ℕ) → is_date y m d ≡ true → Earlier (date y m d) (first_of c)
      → (k : ℕ) × ((1 ≤ k) × (day_number (date y m d) + k ≡ day_number (first_of c)) × (from_ad c y m d ≡ Err (Before k)))
  ad_before y m d e h =
      let f = first_real in
      let l = number_lt (date y m d) (first_of c) (is_real (date y m d) e) f.0 h in
      let n : day_number (date y m d) < c.start = omega (arith, f.1) in
      (c.start - day_number (date y m d), (omega arith, omega (arith, f.1), from_ad_law c y m d s.good e ∙ from_before c _ s.good n))

  pub ad_after : (y m d : ℕ) → is_date y m d ≡ true → Earlier (last_of c) (date y m d)
      → (k : ℕ) × ((1 ≤ k) × (day_number (last_of c) + k ≡ day_number (date y m d)) × (from_ad c y m d ≡ Err (After k)))
  ad_after y m d e h =
      let f = last_real in
      let l = number_lt (last_of c) (date y m d) f.0 (is_real (date y m d) e) h in
      let n : end c ≤ day_number (date y m d) = omega (arith, f.1, s.some) in
      (day_number (date y m d) - end c + 1, (omega arith, omega (arith, f.1, s.some), from_ad_law c y m d s.good e ∙ from_after c _ s.good n))

  pub ad_inside : (x : Date) → TableDay c x → (t : BsDate) × (from_ad c x.year x.month x.day ≡ Ok t)
  ad_inside x d = (_, from_ad_law c _ _ _ s.good d.real ∙ found c (day_number x) (day_on_law x d))

-- the first day of a lent table is the date that it names
pub first_is : (t : Table) (rows : List ℕ) → accepted t rows ≡ true → first_of (flat t rows) ≡ first_day t
first_is t rows e = of_number (first_day t) (is_real (first_day t) (facts t rows e).frame.real)

-- ---- a date of an accepted table, by the row that a pass over its rows reached
pub record DateRow (t : Table) (rows : List ℕ) (start : ℕ) (p : Passed) (y m d : ℕ) : Type 0 where
  pub valid : Valid (flat t rows) y m d
  pub early : start + p.before ≤ 2488070
  pub row : InRow rows p.row (start + p.before) m d
  pub number : start + p.before + sum (lens rows p.row) (m - 1) + (d - 1) ≡ day_at (flat t rows) (y - t.first_year) (m - 1) (d - 1)

pub date_row : (t : Table) (rows : List ℕ) (start until : ℕ) (p : Passed) (y m d : ℕ) → Begins t rows start → until ≡ y - t.first_year → Ok p ≡ pass_answer t rows until 4294967295
    → Ok tt ≡ valid_bs (untested t rows) y m d → DateRow t rows start p y m d
date_row t rows start until p y m d b u e q =
    let g = pass_is t rows until 4294967295 p e in
    let v = valid_told (flat t rows) y m d (q ∙ valid_is t rows y m d g.0) in
    let k = v.month in
    let f = facts t rows g.0 in
    let r = row_reached t rows f (y - t.first_year) p.row p.before (omega arith) (rw u at g.1.1) in
    let z = rows_before t rows f (y - t.first_year) (omega arith) in
    record {
      valid = v;
      early = omega (arith, b.first, r.1);
      row = record {
        row = omega (arith, r.0);
        early = omega (arith, b.first, r.1);
        month_from = k.month_from;
        month_to = k.month_to;
        day_from = v.day_from;
      };
      number = rw (b.first, r.0, r.1);
    }

-- a date that there is not
pub no_such : (t : Table) (rows : List ℕ) (y m d : ℕ) (k : Refusal) → accepted t rows ≡ true → Err k ≡ number_answer (date y m d) → Err k ≡ from_ad (flat t rows) y m d
unfolding from_ad
no_such t rows y m d k g e = let h = given_refused (is_date y m d) NoSuchDate _ k e in rw (g, h.0, h.1)

-- and one that there is
pub on_day_law : (t : Table) (rows : List ℕ) (y m d n : ℕ) → accepted t rows ≡ true → Ok n ≡ number_answer (date y m d) → from_day (flat t rows) n ≡ from_ad (flat t rows) y m d
on_day_law t rows y m d n g e =
    let h = given_told (is_date y m d) NoSuchDate _ n e in
    ap (from_day (flat t rows)) h.1 ∙ sym (from_ad_law _ y m d g h.0)
