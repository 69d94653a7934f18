-- What is proved of a month that is answered, for any calendar, any day lists, any readings and any today: whole weeks from Sunday, as many blanks
-- before the first day as its weekday says, the days in their order with no gap, blanks to the week's end; and what a cell's holiday number and its
-- count say of the day's list. Assumes nothing.
use Rattle.std.specs.Prelude.{Err, Ok}
use Prim.Native.Nat.{ℕ, ◌+◌, ◌-◌, ◌*◌, ◌%◌, ◌<◌}
use mathlib.Core.Path.{◌≡◌, refl, sym, ap, subst, ◌∙◌}
use mathlib.Core.Bool.{Bool}
use mathlib.Core.List.{List}
use native.Mathlib.Nat.{zero-add}
use lib.ListN.{length, get_or}
use lib.Seq.{take_at}
use Rattle.paper.specs.Answers.{Answer}
use Rattle.paper.proofs.Answers.{answered_same, refused_answered}
use Rattle.gregorian.specs.declared.Date.{Date}
use Rattle.gregorian.specs.Calendar.{weekday_of}
use Rattle.conversion.specs.Calendar.{Calendar, day_at}
use Rattle.rules.specs.declared.lists.Day.{Day}
use Rattle.rules.specs.Festivals.{Pair}
use Rattle.rules.proofs.Listed.{numbers_length}
use Rattle.panchanga.specs.declared.lunar.Reading.{Reading}
use Rattle.grid.specs.declared.Month.{Month}
use Rattle.festivals.specs.Months.{each}
use Rattle.festivals.proofs.Moons.{each_length, each_at}
use Rattle.grid.specs.Cells.{one, holiday_of, cell_with, blank}
use Rattle.grid.specs.Claims.{InWeeks, Written}
use Rattle.grid.specs.Month.{Grid, list_on, cell_on, grid_of, cell_numbers, festival_numbers, month_grid, shown}
use Rattle.grid.proofs.Marks.{cell_length}
use Rattle.grid.proofs.Weeks.{month_length_law, month-numbers, weeks_whole, weeks_lead, weeks_at, weeks_tail}
use Rattle.grid.proofs.Asked.{told}

module _ (list : Day → List Pair) (reading : Day → Reading) (today : Date) (y m first : ℕ) where
  -- a month of so many days: the blanks before the first are as many as its weekday
  pub laid_out : (days : ℕ) → InWeeks (weekday_of first) days (cell_on list reading today y m first) (grid_of list reading today y m first days).cells
  unfolding grid_of
  laid_out days =
      let f = cell_on list reading today y m first in
      let lead = weekday_of first in
      let n = each_length f 0 days in
      record {
        whole = weeks_whole lead _;
        count = month_length_law f lead days;
        before = weeks_lead lead _;
        each_day = λ d h. weeks_at lead d (each f 0 days) blank (rw n h) ∙ each_at f 0 days d blank h ∙ ap f (zero-add d);
        after = rw n at (weeks_tail lead (each f 0 days));
      }

  -- the holiday number of a day's cell: a Saturday, or a holiday in the list as shown
  pub holiday_says_law : (d : ℕ) → get_or (cell_on list reading today y m first d) 6 0 ≡ one (holiday_of (first + d) (list_on list reading today y m first d))
  unfolding cell_with
  holiday_says_law d = refl

  -- its last number is the length of that list
  pub count_says : (d : ℕ) → get_or (cell_on list reading today y m first d) 11 0 ≡ length (list_on list reading today y m first d)
  unfolding cell_with
  count_says d = refl

-- ---- a month that is answered

module _ (c : Calendar) (ok : Bool) (list : Day → List Pair) (reading : Day → Reading) (today : Date) (y m a b : ℕ) (g : Grid) (h : month_grid c ok list reading today y m a b ≡ Ok g) where
  abbrev first : ℕ
  first = day_at c (y - c.first) (m - 1) 0

  abbrev days : ℕ
  days = c.len (y - c.first) (m - 1)

  pub month_weeks : InWeeks (weekday_of first) days (cell_on list reading today y m first) g.cells
  month_weeks = subst (λ (z : Grid). InWeeks (weekday_of first) days (cell_on list reading today y m first) z.cells) (told c ok list reading today y m a b g h).grid (laid_out list reading today y m first days)

  pub month_holiday : (d : ℕ) → d < days → get_or (get_or g.cells (weekday_of first + d) blank) 6 0 ≡ one (holiday_of (first + d) (list_on list reading today y m first d))
  month_holiday d k = ap (λ (l : List ℕ). get_or l 6 0) (month_weeks.each_day d k) ∙ holiday_says_law list reading today y m first d

  pub month_count : (d : ℕ) → d < days → get_or (get_or g.cells (weekday_of first + d) blank) 11 0 ≡ length (list_on list reading today y m first d)
  month_count d k = ap (λ (l : List ℕ). get_or l 11 0) (month_weeks.each_day d k) ∙ count_says list reading today y m first d

-- ---- what the call answers and writes

numbers_count : (list : Day → List Pair) (reading : Day → Reading) (today : Date) (y m first days : ℕ)
    → let g = grid_of list reading today y m first days in length (cell_numbers g) ≡ length g.cells * 12
unfolding grid_of
numbers_count list reading today y m first days =
    let f = cell_on list reading today y m first in
    month-numbers f (weekday_of first) days (λ d. cell_length _ _ _ _ _) ∙ ap (λ (k : ℕ). k * 12) (sym (month_length_law f (weekday_of first) days))

answered_grid : (a : Answer Grid) (cells festivals : List ℕ) (r : Month) → (shown a cells festivals).answer ≡ Ok r → (g : Grid) × (a ≡ Ok g)
unfolding shown
answered_grid (Ok g) cells festivals r h = (g, refl)
answered_grid (Err k) cells festivals r h = absurd (refused_answered refl h)

written : (a : Answer Grid) (g : Grid) (cells festivals : List ℕ) (r : Month) → a ≡ Ok g → length g.cells % 7 ≡ 0 → length (cell_numbers g) ≡ length g.cells * 12
    → (shown a cells festivals).answer ≡ Ok r → Written g (shown a cells festivals).cells (shown a cells festivals).festivals r
unfolding shown
written a g cells festivals r e w n h =
    let q : r ≡ record { days = g.days; first = g.first; last = g.last; cells = length g.cells; festivals = length g.festivals } = sym (answered_same (rw e at h)) in
    rw (e, q)
    (record {
      whole = w;
      cells_at_front = take_at (cell_numbers g) _ _ n;
      festivals_at_front = take_at (festival_numbers g) _ _ (numbers_length g.festivals);
    })

module _ (c : Calendar) (ok : Bool) (list : Day → List Pair) (reading : Day → Reading) (today : Date) (y m : ℕ) (cells festivals : List ℕ) (r : Month) where
  abbrev asked : Answer Grid
  asked = month_grid c ok list reading today y m (length cells) (length festivals)

  pub month_written : (shown asked cells festivals).answer ≡ Ok r
      → (g : Grid) × ((asked ≡ Ok g) × Written g (shown asked cells festivals).cells (shown asked cells festivals).festivals r)
  month_written h =
      let z = answered_grid asked cells festivals r h in
      let g = z.0 in
      let is = (told c ok list reading today y m (length cells) (length festivals) g z.1).grid in
      let n = subst (λ (f : Grid). length (cell_numbers f) ≡ length f.cells * 12) is (numbers_count list reading today y m _ _) in
      (g, (z.1, written asked g cells festivals r z.1 (month_weeks c ok list reading today y m (length cells) (length festivals) g z.1).whole n h))
