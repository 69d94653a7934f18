-- The checked examples of docs/RULES.md hold; demand 3 holds of its table; and its month 100/2 in weeks. Assumes nothing.
use Rattle.std.specs.Prelude.{Ok}
use Prim.Native.Nat.{ℕ, ◌-◌}
use mathlib.Core.Path.{◌≡◌, refl, ap, ◌∙◌}
use mathlib.Core.Bool.{true}
use mathlib.Core.List.{List}
use lib.Dec.{T}
use lib.ListN.{length, take, drop, replicate}
use Rattle.paper.specs.Answers.{given}
use Rattle.paper.specs.Sums.{sum, all}
use Rattle.gregorian.specs.declared.Date.{Date}
use Rattle.gregorian.specs.Calendar.{is_date, day_number, weekday_of}
use Rattle.gregorian.specs.Answers.{real}
use Rattle.gregorian.proofs.Laws.{of_number, real_of}
use Rattle.conversion.specs.declared.BsDate.{BsDate}
use Rattle.conversion.specs.Calendar.{day_at, to_day, to_ad, outside, from_day, from_ad}
use Rattle.conversion.specs.Flat.{row_ok, accepted}
use Rattle.conversion.proofs.Ad.{number_ad, served, ad_to_from}
use Rattle.rules.specs.declared.lists.Day.{Day}
use Rattle.rules.specs.Festivals.{Pair}
use Rattle.panchanga.specs.declared.lunar.Reading.{Reading}
use Rattle.grid.specs.Cells.{blank}
use Rattle.grid.specs.Month.{Grid, grid_of}
use Rattle.grid.specs.Kathmandu.{month_under}
use Rattle.grid.specs.Step.{absolute, whole_years, months_left, month_at, step_month}
use Rattle.grid.specs.Claims.{InWeeks}
use Rattle.grid.proofs.Theorems.{laid_out, month_weeks}
use Rattle.conversion.specs.Own.{own_table, first_row, second_row, own_rows, own}
use Rattle.steady.specs.Examples.{Says, AllSay, is, examples}
use Rattle.steady.specs.Steady.{Steady}
use Rattle.steady.proofs.Steady.{steady}

good : own.good ≡ true
unfolding accepted row_ok all sum is_date day_number
good = refl

-- a date by its number
by_number : (t : BsDate) (x : Date) → to_day own t.year t.month t.day ≡ Ok (day_number x) → T (real x) → Says (is t x)
unfolding Says
by_number t x e r =
    let a : to_ad own t.year t.month t.day ≡ Ok x = number_ad own (served own_table own_rows good) _ _ _ _ e ∙ ap Ok (of_number x (real_of x r)) in
    (a, ad_to_from own (served own_table own_rows good) _ _ _ x a)

-- THE EXAMPLES
pub checked : AllSay examples
unfolding AllSay Says examples to_day to_ad from_ad from_day outside accepted row_ok all sum is_date day_number step_month month_at absolute whole_years months_left
checked = (
  by_number _ _ refl tt,
  (
    by_number _ _ refl tt,
    (
      by_number _ _ refl tt,
      (
        by_number _ _ refl tt,
        (
          by_number _ _ refl tt,
          (
            by_number _ _ refl tt,
            (refl, (refl, (refl, (refl, (refl, (refl, (refl, tt))))))),
          ),
        ),
      ),
    ),
  ),
)

-- ---- the own table and its first row alone: both are accepted, so demand 3 holds of them

first_good : accepted own_table first_row ≡ true
unfolding accepted row_ok all sum is_date day_number
first_good = refl

pub own_steady : (rules : List ℕ) (today : Date) → Steady own_table first_row second_row rules today
own_steady rules today = steady own_table first_row second_row rules today first_good good

-- ---- month 100/2 of the own table, whatever its lists and readings are

abbrev first_number : ℕ
first_number = day_at own (100 - own.first) (2 - 1) 0

abbrev days : ℕ
days = own.len (100 - own.first) (2 - 1)

wednesday : weekday_of first_number ≡ 3
unfolding sum day_number
wednesday = refl

-- 3 blanks before, 1 after, 35 cells
abbrev In35 : List (List ℕ) → Type 0
In35 cells = (length cells ≡ 35) × (take 3 cells ≡ replicate 3 blank) × (drop 34 cells ≡ replicate 1 blank)

in_35 : (day : ℕ → List ℕ) (cells : List (List ℕ)) → InWeeks (weekday_of first_number) days day cells → In35 cells
in_35 day cells w = (rw wednesday at w.count, rw wednesday at w.before, rw wednesday at w.after)

pub month_100_2 : (list : Day → List Pair) (reading : Day → Reading) (today : Date) → In35 (grid_of list reading today 100 2 first_number days).cells
month_100_2 list reading today = in_35 _ _ (laid_out list reading today 100 2 first_number days)

-- and so wherever `month_grid` answers it
pub month_100_2_asked : (rules : List ℕ) (today : Date) (a b : ℕ) (g : Grid) → month_under own rules today 100 2 a b ≡ Ok g → In35 g.cells
month_100_2_asked rules today a b g h = in_35 _ _ (month_weeks own _ _ _ today 100 2 a b g h)
