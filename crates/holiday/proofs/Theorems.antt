-- THE ANSWER IS THE CELL'S: for every table, every list of rules and every date of a month that is answered, what is answered of the date is the holiday
-- number of its cell. Assumes nothing.
use Rattle.std.specs.Prelude.{Ok}
use Prim.Native.Nat.{ℕ, ◌+◌, ◌-◌, ◌≤◌, ◌<◌}
use mathlib.Core.Path.{◌≡◌, refl, sym, ap, subst, ◌∙◌}
use mathlib.Core.Bool.{Bool, true}
use mathlib.Core.List.{List}
use native.Mathlib.Omega.{arith}
use lib.ListN.{length, get_or}
use Rattle.paper.specs.Answers.{Answer}
use Rattle.paper.proofs.Answers.{answered_same}
use Rattle.gregorian.specs.declared.Date.{Date}
use Rattle.gregorian.specs.Calendar.{weekday_of}
use Rattle.gregorian.specs.Answers.{real}
use Rattle.conversion.specs.declared.Table.{Table}
use Rattle.conversion.specs.Calendar.{Calendar, bs, day_at, month_len, to_day}
use Rattle.conversion.specs.Flat.{flat}
use Rattle.conversion.proofs.Days.{Valid, of_month_law, converts, converted}
use Rattle.rules.specs.declared.lists.Day.{Day}
use Rattle.rules.specs.Rules.{rules_of, accepted_rules}
use Rattle.rules.specs.Festivals.{Pair}
use Rattle.rules.proofs.Lent.{lent_told}
use Rattle.rules.proofs.Questions.{then_by}
use Rattle.rules.proofs.Following.{then_told}
use Rattle.panchanga.specs.declared.lunar.Reading.{Reading}
use Rattle.festivals.specs.Kathmandu.{kathmandu, day_list_of}
use Rattle.grid.specs.declared.Month.{Month}
use Rattle.grid.specs.Cells.{one, holiday_of, cell_with, blank}
use Rattle.grid.specs.Month.{Grid, cell_on, grid_of, cell_numbers, festival_numbers, over, shown}
use Rattle.grid.specs.Kathmandu.{reading_on, list_under, grid_under, month_under, month_shown}
use Rattle.grid.proofs.Asked.{by_length, Told, told}
use Rattle.grid.proofs.Grids.{fits}
use Rattle.grid.proofs.Marks.{cell_length}
use Rattle.grid.proofs.Theorems.{month_weeks, month_holiday, month_written}
use Rattle.holiday.specs.Holiday.{holiday_by, holiday_on}
use Rattle.holiday.specs.Claims.{place_of, cell_in, AsInCell}
use Rattle.holiday.proofs.Asked.{on_day}
use Rattle.holiday.proofs.Cells.{Twelve, twelve_weeks, joined_at}

-- the first number of a day's cell
day_says : (list : Day → List Pair) (reading : Day → Reading) (today : Date) (y m first d : ℕ) → get_or (cell_on list reading today y m first d) 0 0 ≡ d + 1
unfolding cell_with
day_says list reading today y m first d = refl

-- ---- in the month's cells

module _ (t : Table) (rows rules : List ℕ) (today : Date) (y m d a b : ℕ) (g : Grid) (h : month_under (flat t rows) rules today y m a b ≡ Ok g) where
  abbrev c : Calendar
  c = flat t rows

  abbrev first : ℕ
  first = day_at c (y - c.first) (m - 1) 0

  month : Told c (accepted_rules rules) (list_under c rules) reading_on today y m a b g
  month = told c _ _ _ today y m a b g h

  days_are_law : c.len (y - c.first) (m - 1) ≡ g.days
  unfolding grid_of
  days_are_law = ap (λ (z : Grid). z.days) month.grid

  twelve : Twelve g.cells
  unfolding grid_of
  twelve =
      subst (λ (z : Grid). Twelve z.cells) month.grid
      (twelve_weeks (cell_on (list_under c rules) reading_on today y m first) (λ k. cell_length _ _ _ _ _) (weekday_of first) _)

  module _ (from : 1 ≤ d) (to : d ≤ g.days) where
    abbrev n : ℕ
    n = first + (d - 1)

    below : d - 1 < c.len (y - c.first) (m - 1)
    below = omega (arith, days_are_law)

    has-number : to_day c y m d ≡ Ok n
    has-number =
        let v : Valid c y m d = record { month = month.month; day_from = from; day_to = omega (arith, days_are_law) } in
        let q : day_at c (y - c.first) (m - 1) (d - 1) ≡ n = omega arith in
        converts c y m d v ∙ ap Ok q

    pub in-grid : AsInCell d (get_or g.cells (place_of c y m d) blank) (holiday_on t rows rules y m d)
    in-grid =
        let e : d - 1 + 1 ≡ d = omega arith in
        record {
          yes = holiday_of n (day_list_of c (rules_of rules) (bs y m d) n);
          day = ap (λ (l : List ℕ). get_or l 0 0) ((month_weeks c _ _ _ today y m a b g h).each_day (d - 1) below) ∙ day_says (list_under c rules) reading_on today y m first (d - 1) ∙ e;
          answer = on_day kathmandu c (rules_of rules) (accepted_rules rules) y m d month.month.good month.rules n has-number;
          mark = month_holiday c _ _ _ today y m a b g h (d - 1) below ∙ ap (λ (k : ℕ). one (holiday_of n (day_list_of c (rules_of rules) (bs y m k) n))) e;
        }

    -- its place is one of the cells
    placed : place_of c y m d < length g.cells
    placed = omega (arith, (month_weeks c _ _ _ today y m a b g h).count, below)

    -- and so in any buffer that begins with them
    pub in-front : (rest : List ℕ) → AsInCell d (cell_in (over (cell_numbers g) rest) (place_of c y m d)) (holiday_on t rows rules y m d)
    in-front rest =
        subst (λ (l : List ℕ). AsInCell d l (holiday_on t rows rules y m d)) (sym (joined_at g.cells _ (place_of c y m d) twelve placed)) in-grid

-- ---- in what `month_grid` answers and writes

shown_days : (a : Answer Grid) (g : Grid) (cells festivals : List ℕ) (r : Month) → a ≡ Ok g → (shown a cells festivals).answer ≡ Ok r → g.days ≡ r.days
unfolding shown
shown_days a g cells festivals r e h = ap (λ (z : Month). z.days) (answered_same (rw e at h))

shown_cells : (a : Answer Grid) (g : Grid) (cells festivals : List ℕ) → a ≡ Ok g → over (cell_numbers g) cells ≡ (shown a cells festivals).cells
unfolding shown
shown_cells a g cells festivals e = rw e

module _ (t : Table) (rows rules : List ℕ) (today : Date) (y m d : ℕ) (cells festivals : List ℕ) (r : Month) where
  pub in_cells : (month_shown t rows rules today y m cells festivals).answer ≡ Ok r → 1 ≤ d → d ≤ r.days
      → AsInCell d (cell_in (month_shown t rows rules today y m cells festivals).cells (place_of (flat t rows) y m d)) (holiday_on t rows rules y m d)
  in_cells h from to =
      let z = month_written (flat t rows) (accepted_rules rules) (list_under (flat t rows) rules) reading_on today y m cells festivals r h in
      let g = z.0 in
      let e = z.1.0 in
      let k : d ≤ g.days = omega (arith, shown_days _ g cells festivals r e h) in
      subst (λ (l : List ℕ). AsInCell d (cell_in l (place_of (flat t rows) y m d)) (holiday_on t rows rules y m d)) (shown_cells _ g cells festivals e)
      (in-front t rows rules today y m d _ _ g e from k cells)

-- ---- every date that is answered has a cell

module _ (t : Table) (rows rules : List ℕ) (today : Date) (y m d : ℕ) (v : Bool) where
  abbrev calendar : Calendar
  calendar = flat t rows

  -- the month of the date
  abbrev around : Grid
  around = grid_under calendar rules today y m (calendar.len (y - calendar.first) (m - 1))

  dated : holiday_on t rows rules y m d ≡ Ok v → (accepted_rules rules ≡ true) × Valid calendar y m d
  unfolding holiday_by
  dated h =
      let l = lent_told calendar (accepted_rules rules) _ h in
      let n = then_told (to_day calendar y m d) _ l.2 in
      (l.1, converted calendar y m d n.0 n.1.0)

  len_is : Valid calendar y m d → month_len calendar y m ≡ Ok (calendar.len (y - calendar.first) (m - 1))
  unfolding month_len
  len_is w = of_month_law calendar y m _ w.month

  -- its month is answered wherever today is a date and both buffers are long enough, and the day is one of the month's
  pub has_cell : holiday_on t rows rules y m d ≡ Ok v → real today ≡ true → (a b : ℕ) → length (cell_numbers around) ≤ a → length (festival_numbers around) ≤ b
      → (month_under calendar rules today y m a b ≡ Ok around) × (1 ≤ d) × (d ≤ calendar.len (y - calendar.first) (m - 1))
  has_cell h k a b p q =
      let w = dated h in (
        by_length calendar (accepted_rules rules) (list_under calendar rules) reading_on today y m a b w.0 k ∙ then_by (month_len calendar y m) _ _ (len_is w.1) ∙ fits around a b p q,
        w.1.day_from,
        w.1.day_to,
      )
