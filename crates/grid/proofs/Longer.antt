-- DEMAND 3 for the month, over two good calendars of which the longer begins as the shorter does: what the shorter answers the longer answers, with the
-- same numbers in both buffers, and the shorter refuses a month of the longer exactly if its year is added. Assumes nothing.
use Rattle.std.specs.Prelude.{Ok}
use Prim.Native.Nat.{ℕ, ◌+◌, ◌-◌, ◌<◌}
use mathlib.Core.Path.{◌≡◌, sym, ap, ◌∙◌}
use mathlib.Core.Bool.{Bool, true}
use mathlib.Core.List.{List, ◌++◌}
use native.Mathlib.Omega.{arith}
use Rattle.paper.specs.declared.Refusal.TheVariants.{NoYear}
use Rattle.paper.specs.Answers.{Answer}
use Rattle.paper.proofs.Answers.{answered_same}
use Rattle.gregorian.specs.declared.Date.{Date}
use Rattle.conversion.specs.declared.Table.{Table}
use Rattle.conversion.specs.Calendar.{Calendar, bs, day_at, month_len, to_day}
use Rattle.conversion.specs.Claims.{Added, RefusedIf}
use Rattle.conversion.specs.Flat.{accepted, flat}
use Rattle.conversion.proofs.Accepted.{facts}
use Rattle.conversion.proofs.Rows.{row_lens}
use Rattle.conversion.proofs.Days.{Valid, len_told, converts, converted, from_to}
use Rattle.conversion.proofs.Longer.{Extends, extends, len_longer, len_added, day_longer}
use Rattle.rules.specs.declared.lists.Day.{Day}
use Rattle.rules.specs.Rules.{rules_of}
use Rattle.rules.specs.Festivals.{Pair}
use Rattle.rules.specs.Resolved.{day_numbered}
use Rattle.rules.proofs.Following.{then_told, then_longer, then_added}
use Rattle.rules.proofs.Longer.{Filled, list_same}
use Rattle.panchanga.specs.declared.lunar.Reading.{Reading}
use Rattle.grid.specs.Month.{Grid, grid_of, fitted, month_grid, shown}
use Rattle.grid.specs.Kathmandu.{reading_on, list_under}
use Rattle.grid.specs.Longer.{MonthsStay}
use Rattle.grid.proofs.Asked.{by_length, told, grid_ext}

-- ---- for any lists that agree on the days of the shorter

module _ (c e : Calendar) (x : Extends c e) (w : Filled c) (ok : Bool) (list other : Day → List Pair)
    (same : (y m d n : ℕ) → to_day c y m d ≡ Ok n → list (day_numbered (bs y m d) n) ≡ other (day_numbered (bs y m d) n))
    (reading : Day → Reading) (today : Date) (y m a b : ℕ) where
  -- the month begins on the same day
  first_same : (n : ℕ) → month_len c y m ≡ Ok n → day_at c (y - c.first) (m - 1) 0 ≡ day_at e (y - e.first) (m - 1) 0
  first_same n h =
      let k = (len_told c y m n (sym h)).0 in
      let v : Valid c y m 1 = record { month = k; day_from = omega arith; day_to = w (y - c.first) (m - 1) (omega (arith, k)) (omega (arith, k)) } in
      let q = day_longer c e x y m 1 _ (converts c y m 1 v) in
      answered_same (sym q ∙ converts e y m 1 (converted e y m 1 _ q))

  -- each day has its number, and so its list
  list_on : (n : ℕ) → month_len c y m ≡ Ok n → (d : ℕ) → d < n
      → let t = day_numbered (bs y m (d + 1)) (day_at c (y - c.first) (m - 1) 0 + d) in list t ≡ other t
  list_on n h d l =
      let k = len_told c y m n (sym h) in
      let v : Valid c y m (d + 1) = record { month = k.0; day_from = omega arith; day_to = omega (arith, k.1) } in
      let q : day_at c (y - c.first) (m - 1) (d + 1 - 1) ≡ day_at c (y - c.first) (m - 1) 0 + d = omega arith in
      same y m (d + 1) _ (converts c y m (d + 1) v ∙ ap Ok q)

  fitted_same : (n : ℕ) → month_len c y m ≡ Ok n
      → fitted (grid_of list reading today y m (day_at c (y - c.first) (m - 1) 0) n) a b ≡ fitted (grid_of other reading today y m (day_at e (y - e.first) (m - 1) 0) n) a b
  fitted_same n h =
      ap (λ (g : Grid). fitted g a b)
      (grid_ext list other reading today y m _ n (list_on n h) ∙ ap (λ (f : ℕ). grid_of other reading today y m f n) (first_same n h))

  pub grid_longer : (g : Grid) → month_grid c ok list reading today y m a b ≡ Ok g → month_grid e ok other reading today y m a b ≡ Ok g
  grid_longer g h =
      let t = told c ok list reading today y m a b g h in
      by_length e ok other reading today y m a b t.rules t.is_date_law
      ∙ then_longer (month_len c y m) (month_len e y m) _ _ (len_longer c e x y m) fitted_same g (sym (by_length c ok list reading today y m a b t.rules t.is_date_law) ∙ h)

  pub grid_added : (g : Grid) → month_grid e ok other reading today y m a b ≡ Ok g → RefusedIf (month_grid c ok list reading today y m a b) NoYear (Added c y)
  grid_added g h =
      let t = told e ok other reading today y m a b g h in
      let q = sym (by_length e ok other reading today y m a b t.rules t.is_date_law) ∙ h in
      let n = then_told (month_len e y m) _ q in
      rw (by_length c ok list reading today y m a b t.rules t.is_date_law)
      (then_added (month_len c y m) (month_len e y m) _ _ (len_longer c e x y m) fitted_same NoYear (Added c y) n.0 g n.1.0 (len_added c e x y m n.0 n.1.0) q)

-- ---- over Kathmandu

module _ (rules : List ℕ) (today : Date) (c e : Calendar) (x : Extends c e) (w : Filled c) where
  list_under_law : (y m d n : ℕ) → to_day c y m d ≡ Ok n → list_under c rules (day_numbered (bs y m d) n) ≡ list_under e rules (day_numbered (bs y m d) n)
  list_under_law y m d n h = list_same _ c e x w (rules_of rules) n (bs y m d) (from_to c y m d n h)

  pub steady_by : MonthsStay rules today c e
  steady_by =
      let longer = grid_longer c e x w _ (list_under c rules) (list_under e rules) list_under_law reading_on today in
      record {
        month = longer;
        written = λ y m cells festivals g h. ap (λ (z : Answer Grid). shown z cells festivals) (longer y m _ _ g h ∙ sym h);
        month_added = grid_added c e x w _ (list_under c rules) (list_under e rules) list_under_law reading_on today;
      }

-- the rows of one accepted table are the first rows of another, with the same rules, the same today and the same buffers
pub steady : (rules : List ℕ) (today : Date) (t : Table) (rows more : List ℕ) → accepted t rows ≡ true → accepted t (rows ++ more) ≡ true
    → MonthsStay rules today (flat t rows) (flat t (rows ++ more))
steady rules today t rows more a b =
    steady_by rules today (flat t rows) (flat t (rows ++ more)) (extends t rows more a b)
    (λ i m h k. omega (arith, row_lens rows i m ((facts t rows a).row i h) k))
