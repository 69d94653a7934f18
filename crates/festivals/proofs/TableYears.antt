-- The first and the last day of a year of an accepted table, as three questions to the table answer them. Assumes nothing.
use Rattle.std.specs.Prelude.{None, Ok, Option, Some}
use Prim.Native.Nat.{ℕ, ◌+◌, ◌-◌, ◌≤◌, ◌<◌}
use Rattle.std.specs.Result.{result_ok}
use mathlib.Core.Path.{◌≡◌, refl, sym, ap, ◌∙◌}
use mathlib.Core.Bool.{Bool, true, false, cond, ◌&&◌}
use mathlib.Core.List.{List, []}
use native.Mathlib.Omega.{arith}
use borrow.Author.Tests.{leb-true, ltb-true, le-leb, lt-ltb}
use lib.Dec.{leb}
use lib.Ieee.{Float}
use Rattle.paper.proofs.Answers.{answered_same}
use Rattle.paper.proofs.Tests.{and_left, and_right}
use Rattle.conversion.specs.declared.Table.{Table}
use Rattle.conversion.specs.Calendar.{Calendar, year_ok, month_len, to_day}
use Rattle.conversion.specs.Flat.{accepted, flat}
use Rattle.conversion.proofs.Accepted.{facts}
use Rattle.conversion.proofs.Rows.{row_lens}
use Rattle.conversion.proofs.Days.{InTable, of_month_law, converts, converted}
use Rattle.rules.specs.Sky.{Sky}
use Rattle.rules.specs.Festivals.{first_day, last_day, last_of, moons, in_month, opening}
use Rattle.festivals.specs.Months.{year_days, months_by}
use Rattle.festivals.proofs.Oks.{ok_some, ok_none}

module _ (t : Table) (rows : List ℕ) (g : accepted t rows ≡ true) (y : ℕ) where
  abbrev c : Calendar
  c = flat t rows

  record InYear : Type 0 where
    from : c.first ≤ y
    to : y < c.first + c.years

  -- a year of the table, or none
  days_in_law : InYear → Some (first_day c y, last_day c y) ≡ year_days c y
  unfolding year_days
  days_in_law v = rw (g, le-leb _ _ v.from, lt-ltb _ _ v.to)

  days_out : (InYear → ⊥) → None ≡ year_days c y
  unfolding year_days
  days_out h = go (c.good && year_ok c y) refl
    where
      go : (b : Bool) → (c.good && year_ok c y) ≡ b → ◌≡◌ {A = Option (ℕ × ℕ)} None (cond b (Some (first_day c y, last_day c y)) None)
      go false e = refl
      go true e =
          let f = and_right c.good (year_ok c y) e in
          absurd (h (record { from = leb-true _ _ (and_left (leb c.first y) _ f); to = ltb-true _ _ (and_right (leb c.first y) _ f) }))

  -- ---- what the table answers in such a year
  month_in_law : InYear → (m : ℕ) → 1 ≤ m → m ≤ 12 → InTable c y m
  month_in_law v m h k = record { good = g; year_from = v.from; year_to = v.to; month_from = h; month_to = k }

  lens_in : InYear → (m : ℕ) → m < 12 → 29 ≤ c.len (y - c.first) m
  lens_in v m h = (row_lens rows (y - c.first) m ((facts t rows g).row (y - c.first) (omega (arith, v.from, v.to))) h).0

  first_is : InYear → to_day c y 1 1 ≡ Ok (first_day c y)
  first_is v =
      converts c y 1 1 (record { month = month_in_law v 1 (omega arith) (omega arith); day_from = omega arith; day_to = omega (arith, lens_in v 0 (omega arith)) })

  len_is : InYear → month_len c y 12 ≡ Ok (c.len (y - c.first) 11)
  unfolding month_len
  len_is v = of_month_law c y 12 _ (month_in_law v 12 (omega arith) (omega arith))

  last_is : InYear → to_day c y 12 (c.len (y - c.first) 11) ≡ Ok (last_day c y)
  last_is v =
      converts c y 12 (c.len (y - c.first) 11)
      (record { month = month_in_law v 12 (omega arith) (omega arith); day_from = omega (arith, lens_in v 11 (omega arith)); day_to = omega arith })

  -- ---- and so what is known of the year
  pub no_first : None ≡ result_ok (to_day c y 1 1) → None ≡ year_days c y
  no_first e = days_out (λ v. ok_none _ e (first_is v))

  pub no_length : None ≡ result_ok (month_len c y 12) → None ≡ year_days c y
  no_length e = days_out (λ v. ok_none _ e (len_is v))

  module _ (n : ℕ) (q : Some n ≡ result_ok (month_len c y 12)) where
    len_known : InYear → n ≡ c.len (y - c.first) 11
    len_known v = answered_same (sym (ok_some _ q) ∙ len_is v)

    last_known : InYear → to_day c y 12 n ≡ Ok (last_day c y)
    last_known v = rw (len_known v) (last_is v)

    pub no_last : None ≡ result_ok (to_day c y 12 n) → None ≡ year_days c y
    no_last e = days_out (λ v. ok_none _ e (last_known v))

    pub both_days : (a b : ℕ) → Some a ≡ result_ok (to_day c y 1 1) → Some b ≡ result_ok (to_day c y 12 n) → Some (a, b) ≡ year_days c y
    both_days a b e f =
        let w = (converted c y 1 1 a (ok_some _ e)).month in
        let v : InYear = record { from = w.year_from; to = w.year_to } in
        let ea : a ≡ first_day c y = answered_same (sym (ok_some _ e) ∙ first_is v) in
        let eb : b ≡ last_day c y = answered_same (sym (ok_some _ f) ∙ last_known v) in
        ap (λ (z : ℕ). Some (z, b)) ea ∙ ap (λ (z : ℕ). Some (first_day c y, z)) eb ∙ days_in_law v

-- what the first and the last day of a year stand on
pub ruleset asked_days = (no_first, no_length, no_last, both_days)

-- ---- the new moons of a year, by its days
abbrev pub around : {I : Type 0} → Sky I → Option (ℕ × ℕ) → List I
around s (Some d) = s.new_moons d.0 d.1
around s None = []

module _ {I : Type 0} (s : Sky I) (c : Calendar) (y : ℕ) where
  moons_by : (b : Bool) (o : Option (ℕ × ℕ)) → o ≡ cond b (Some (first_day c y, last_day c y)) None
      → cond b (s.new_moons (first_day c y) (last_day c y)) [] ≡ around s o
  moons_by true o e = ap (around s) (sym e)
  moons_by false o e = ap (around s) (sym e)

  -- the last in a month opens it
  pub opens : (o : Option (ℕ × ℕ)) → o ≡ year_days c y → (m : ℕ) → last_of (in_month s c y m) None (around s o) ≡ opening s c y m
  unfolding opening moons year_days
  opens o e m = ap (last_of (in_month s c y m) None) (sym (moons_by (c.good && year_ok c y) o e))

-- so of the twelve places
pub opens_all : (s : Sky Float) (c : Calendar) (y : ℕ) (o : Option (ℕ × ℕ)) → o ≡ year_days c y
    → months_by (λ m. last_of (in_month s c y m) None (around s o)) ≡ months_by (opening s c y)
opens_all s c y o e = λ i. months_by (λ m. opens s c y o e m i)
