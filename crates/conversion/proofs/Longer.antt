-- Two good calendars, of which the longer begins as the shorter does: each answer of the shorter is an answer of the longer, and the shorter
-- refuses what lies in an added year. Assumes nothing.
use Rattle.std.specs.Prelude.{Err, Ok}
use Prim.Native.Nat.{ℕ, ◌+◌, ◌-◌, ◌*◌, ◌≤◌, ◌<◌}
use mathlib.Core.Path.{◌≡◌, refl, sym, ap, ◌∙◌}
use mathlib.Core.Bool.{true}
use mathlib.Core.List.{List, ◌++◌}
use mathlib.Core.Logic.{⊎_elim}
use native.Mathlib.Omega.{arith}
use lib.ListN.{length-append, get_or-append}
use Rattle.paper.specs.declared.Refusal.TheVariants.{NoYear, NoDay, Before, After}
use Rattle.paper.specs.declared.Refusal.{Refusal}
use Rattle.paper.specs.Answers.{Answer, given}
use Rattle.paper.proofs.Answers.{answered_same, refused_answered}
use Rattle.paper.proofs.Sums.{sum_ext, sum_mono}
use Rattle.paper.proofs.Tests.{split}
use Rattle.gregorian.specs.declared.Date.{Date}
use Rattle.gregorian.specs.Calendar.{day_number, date_of}
use Rattle.conversion.specs.declared.Table.{Table}
use Rattle.conversion.specs.declared.BsDate.{BsDate}
use Rattle.conversion.specs.Calendar.{Calendar, year_len, end, day_at, date_after, day_ok, of_month, month_len, valid_bs, to_day, outside, from_day, to_ad, from_ad}
use Rattle.conversion.specs.Flat.{date, accepted, flat}
use Rattle.conversion.specs.Claims.{Added, added_days, RefusedIf}
use Rattle.conversion.proofs.Accepted.{facts}
use Rattle.conversion.proofs.Days.{InTable, OnTable, of_month_law, in_month_law, no_year, converted, found, from_outside, from_before, from_after, before_told, after_told, from_to, to_from}
use Rattle.conversion.proofs.Ad.{from_ad_law, ad_from, ad_refused}

pub record Extends (c e : Calendar) : Type 0 where
  pub good : c.good ≡ true
  pub good_too : e.good ≡ true
  pub first : c.first ≡ e.first
  pub start : c.start ≡ e.start
  pub years : c.years ≤ e.years
  pub len : (i m : ℕ) → i < c.years → m < 12 → c.len i m ≡ e.len i m

-- a lent table and one with more rows
pub extends : (t : Table) (rows more : List ℕ) → accepted t rows ≡ true → accepted t (rows ++ more) ≡ true → Extends (flat t rows) (flat t (rows ++ more))
extends t rows more a b =
    let f = (facts t rows a).frame in
    record {
      good = a;
      good_too = b;
      first = refl;
      start = refl;
      years = omega (arith, length-append rows more);
      len = λ i m h l. sym (get_or-append rows more 0 (13 * i + m) (omega arith));
    }

refused_if : {A : Type 0} (a : Answer A) (k : Refusal) (y n : ℕ) {x : A} → (n ≤ y → a ≡ Err k) → (y < n → a ≡ Ok x) → RefusedIf a k (n ≤ y)
refused_if a k y n f g =
    record { when = f; only = λ j e. ⊎_elim (λ l. l) (λ l. absurd (refused_answered e (g l))) (split n y) }

module _ (c e : Calendar) (x : Extends c e) where
  same_year : (i : ℕ) → i < c.years → year_len c i ≡ year_len e i
  same_year i h = sum_ext (c.len i) (e.len i) 12 (λ m l. x.len i m h l)

  same_len : (y m : ℕ) → InTable c y m → c.len (y - c.first) (m - 1) ≡ e.len (y - e.first) (m - 1)
  same_len y m k = rw (← x.first) (x.len (y - c.first) (m - 1) (omega (arith, k)) (omega (arith, k)))

  same_day : (y m d : ℕ) → InTable c y m → day_at c (y - c.first) (m - 1) (d - 1) ≡ day_at e (y - e.first) (m - 1) (d - 1)
  same_day y m d k =
      let i = y - c.first in
      let h : i < c.years = omega (arith, k) in
      let l : m - 1 < 12 = omega (arith, k) in
      let a = sum_ext (year_len c) (year_len e) i (λ j b. same_year j (omega arith)) in
      let b = sum_ext (c.len i) (e.len i) (m - 1) (λ j b. x.len i j h (omega arith)) in
      rw (← x.first) (omega (arith, x.start, a, b))

  -- a month of the shorter is one of the longer; one of the longer is one of the shorter, unless its year is added
  month_longer : (y m : ℕ) → InTable c y m → InTable e y m
  month_longer y m k =
      record {
        good = x.good_too;
        year_from = omega (arith, x.first, k.year_from);
        year_to = omega (arith, x.first, x.years, k.year_to);
        month_from = k.month_from;
        month_to = k.month_to;
      }

  month_shorter : (y m : ℕ) → y < c.first + c.years → InTable e y m → InTable c y m
  month_shorter y m h k =
      record { good = x.good; year_from = omega (arith, x.first, k.year_from); year_to = h; month_from = k.month_from; month_to = k.month_to }

  -- ---- a question about a month, whose answers agree for each month of the shorter
  module _ {A : Type 0} (y m : ℕ) (a b : Answer A) (same : InTable c y m → a ≡ b) where
    longer : {z : A} → of_month c y m a ≡ Ok z → of_month e y m b ≡ Ok z
    longer h =
        let k = in_month_law c y m a h in
        of_month_law e y m b (month_longer y m k.0) ∙ sym (same k.0) ∙ k.1

    kept : {z : A} → y < c.first + c.years → of_month e y m b ≡ Ok z → of_month c y m a ≡ Ok z
    kept l h =
        let k = in_month_law e y m b h in
        let j = month_shorter y m l k.0 in
        of_month_law c y m a j ∙ same j ∙ k.1

    added : {z : A} → of_month e y m b ≡ Ok z → RefusedIf (of_month c y m a) NoYear (Added c y)
    added h = refused_if _ NoYear y _ (λ l. no_year c y m a x.good (λ f t. omega arith)) (λ l. kept l h)

  same_date_law : {A : Type 0} (y m d : ℕ) (u v : A) → (InTable c y m → u ≡ v) → InTable c y m → given (day_ok c y m d) NoDay (Ok u) ≡ given (day_ok e y m d) NoDay (Ok v)
  same_date_law y m d u v h k = rw (same_len y m k, h k)

  -- ---- the length of a month, whether there is a date, and its day
  pub len_longer : (y m n : ℕ) → month_len c y m ≡ Ok n → month_len e y m ≡ Ok n
  unfolding month_len
  len_longer y m n h = longer y m _ _ (λ k. ap Ok (same_len y m k)) h

  pub len_added : (y m n : ℕ) → month_len e y m ≡ Ok n → RefusedIf (month_len c y m) NoYear (Added c y)
  unfolding month_len
  len_added y m n h = added y m _ _ (λ k. ap Ok (same_len y m k)) h

  pub valid_longer : (y m d : ℕ) → valid_bs c y m d ≡ Ok tt → valid_bs e y m d ≡ Ok tt
  unfolding valid_bs
  valid_longer y m d h = longer y m _ _ (same_date_law y m d tt tt (λ k. refl)) h

  pub valid_added : (y m d : ℕ) → valid_bs e y m d ≡ Ok tt → RefusedIf (valid_bs c y m d) NoYear (Added c y)
  unfolding valid_bs
  valid_added y m d h = added y m _ _ (same_date_law y m d tt tt (λ k. refl)) h

  pub day_longer : (y m d n : ℕ) → to_day c y m d ≡ Ok n → to_day e y m d ≡ Ok n
  unfolding to_day
  day_longer y m d n h = longer y m _ _ (same_date_law y m d _ _ (same_day y m d)) h

  pub day_added : (y m d n : ℕ) → to_day e y m d ≡ Ok n → RefusedIf (to_day c y m d) NoYear (Added c y)
  unfolding to_day
  day_added y m d n h = added y m _ _ (same_date_law y m d _ _ (same_day y m d)) h

  day_kept : (y m d n : ℕ) → y < c.first + c.years → to_day e y m d ≡ Ok n → to_day c y m d ≡ Ok n
  unfolding to_day
  day_kept y m d n l h = kept y m _ _ (same_date_law y m d _ _ (same_day y m d)) l h

  pub to_longer : (y m d : ℕ) (g : Date) → to_ad c y m d ≡ Ok g → to_ad e y m d ≡ Ok g
  unfolding to_ad
  to_longer y m d g h = longer y m _ _ (same_date_law y m d _ _ (λ k. ap date_of (same_day y m d k))) h

  pub to_added : (y m d : ℕ) (g : Date) → to_ad e y m d ≡ Ok g → RefusedIf (to_ad c y m d) NoYear (Added c y)
  unfolding to_ad
  to_added y m d g h = added y m _ _ (same_date_law y m d _ _ (λ k. ap date_of (same_day y m d k))) h

  -- ---- the date of a day
  pub from_day_longer : (n : ℕ) (t : BsDate) → from_day c n ≡ Ok t → from_day e n ≡ Ok t
  from_day_longer n t h = from_to e _ _ _ n (day_longer _ _ _ n (to_from c n t h))

  -- a day of the shorter has no date in an added year
  not_added : (n : ℕ) (t : BsDate) → from_day e n ≡ Ok t → Added c t.year → OnTable c n → ⊥
  not_added n t h l o =
      let q : date_after c (n - c.start) ≡ t = answered_same (sym (from_day_longer n _ (found c n o)) ∙ h) in
      let v = converted c _ _ _ n (to_from c n t (found c n o ∙ ap Ok q)) in
      omega (arith, v.month)

  pub from_day_added : (n : ℕ) (t : BsDate) → from_day e n ≡ Ok t → RefusedIf (from_day c n) (outside c n) (Added c t.year)
  from_day_added n t h =
      refused_if _ (outside c n) t.year _
      (λ l. from_outside c n x.good (not_added n t h l))
      (λ l. from_to c _ _ _ n (day_kept _ _ _ n l (to_from e n t h)))

  pub from_longer : (y m d : ℕ) (t : BsDate) → from_ad c y m d ≡ Ok t → from_ad e y m d ≡ Ok t
  from_longer y m d t h =
      let a = ad_from c y m d t h in
      from_ad_law e y m d x.good_too a.0 ∙ from_day_longer _ t a.1

  pub from_added : (y m d : ℕ) (t : BsDate) → from_ad e y m d ≡ Ok t → RefusedIf (from_ad c y m d) (outside c (day_number (date y m d))) (Added c t.year)
  from_added y m d t h =
      let a = ad_from e y m d t h in
      rw (from_ad_law c y m d x.good a.0) (from_day_added _ t a.1)

  -- ---- how far outside

  -- the longer ends no earlier
  end_later : end c ≤ end e
  end_later =
      let a = sum_ext (year_len c) (year_len e) c.years same_year in
      let b = sum_mono (year_len e) c.years e.years x.years in
      omega (arith, x.start)

  pub day_before : (n k : ℕ) → from_day c n ≡ Err (Before k) → from_day e n ≡ Err (Before k)
  day_before n k h =
      let a = before_told c n x.good k h in
      let b : e.start - n ≡ k = omega (arith, a, x.start) in
      from_before e n x.good_too (omega (arith, a.1, x.start)) ∙ ap (λ (j : ℕ). Err (Before j)) b

  pub day_reached : (n k : ℕ) → from_day c n ≡ Err (After k) → k ≤ added_days c e → (t : BsDate) × ((from_day e n ≡ Ok t) × Added c t.year)
  day_reached n k h l =
      let a = after_told c n x.good k h in
      let f = found e n (record { good = x.good_too; from = omega (arith, a.1, x.start); to = omega (arith, a.0, end_later) }) in
      (_, (f, (from_day_added n _ f).only (After k) h))

  pub day_after_law : (n k : ℕ) → from_day c n ≡ Err (After k) → added_days c e < k → from_day e n ≡ Err (After (k - added_days c e))
  day_after_law n k h l =
      let a = after_told c n x.good k h in
      let m = end_later in
      let b : n - end e + 1 ≡ k - added_days c e = omega (arith, a) in
      from_after e n x.good_too (omega (arith, a)) ∙ ap (λ (j : ℕ). Err (After j)) b

  pub ad_before : (y m d k : ℕ) → from_ad c y m d ≡ Err (Before k) → from_ad e y m d ≡ Err (Before k)
  ad_before y m d k h =
      let a = ad_refused c y m d (Before k) x.good refl h in
      from_ad_law e y m d x.good_too a.0 ∙ day_before _ k a.1

  pub ad_reached : (y m d k : ℕ) → from_ad c y m d ≡ Err (After k) → k ≤ added_days c e → (t : BsDate) × ((from_ad e y m d ≡ Ok t) × Added c t.year)
  ad_reached y m d k h l =
      let a = ad_refused c y m d (After k) x.good refl h in
      let b = day_reached _ k a.1 l in
      (b.0, (from_ad_law e y m d x.good_too a.0 ∙ b.1.0, b.1.1))

  pub ad_after : (y m d k : ℕ) → from_ad c y m d ≡ Err (After k) → added_days c e < k → from_ad e y m d ≡ Err (After (k - added_days c e))
  ad_after y m d k h l =
      let a = ad_refused c y m d (After k) x.good refl h in
      from_ad_law e y m d x.good_too a.0 ∙ day_after_law _ k a.1 l
