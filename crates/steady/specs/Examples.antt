-- The checked examples of docs/RULES.md, as one list. Assumes nothing.
use Rattle.std.specs.Prelude.{ℕ, ◌≡◌, List, [], ◌∷◌, ℤ, pos, negsuc, Err, Ok}
use Rattle.paper.specs.declared.Refusal.{Refusal}
use Rattle.paper.specs.declared.Refusal.TheVariants.{NoYear, NoMonth, NoDay, Before, After, OffTable}
use Rattle.gregorian.specs.declared.Date.{Date}
use Rattle.conversion.specs.declared.BsDate.{BsDate}
use Rattle.conversion.specs.Calendar.{bs, to_ad, from_ad}
use Rattle.conversion.specs.Flat.{date}
use Rattle.grid.specs.declared.BsMonth.{BsMonth}
use Rattle.grid.specs.Step.{step_month}
use Rattle.conversion.specs.Own.{own}

pub data Example : Type 0 where
  -- a BS date is a Gregorian date, asked either way
  is : BsDate → Date → Example
  -- a BS date, a Gregorian date, is refused
  no_bs : BsDate → Refusal → Example
  no_ad : Date → Refusal → Example
  -- a month stepped is a month, or refused
  step : ℕ → ℕ → ℤ → BsMonth → Example
  no_step : ℕ → ℕ → ℤ → Refusal → Example

-- what an example says of the own table
unfoldable pub Says : Example → Type 0
Says (is t x) = (to_ad own t.year t.month t.day ≡ Ok x) × (from_ad own x.year x.month x.day ≡ Ok t)
Says (no_bs t k) = to_ad own t.year t.month t.day ≡ Err k
Says (no_ad x k) = from_ad own x.year x.month x.day ≡ Err k
Says (step y m s x) = step_month own y m s ≡ Ok x
Says (no_step y m s k) = step_month own y m s ≡ Err k

-- every example of a list
unfoldable pub AllSay : List Example → Type 0
AllSay [] = Unit
AllSay (e ∷ es) = Says e × AllSay es

unfoldable pub examples : List Example
examples =
    is (bs 100 1 1) (date 1950 1 1)
    ∷ is (bs 100 2 29) (date 1950 3 1)
    ∷ is (bs 100 4 1) (date 1950 4 5)
    ∷ is (bs 100 12 30) (date 1950 12 31)
    ∷ is (bs 101 1 1) (date 1951 1 1)
    ∷ is (bs 101 12 31) (date 1952 1 1)
    ∷ no_bs (bs 100 12 31) NoDay
    ∷ no_bs (bs 100 13 40) NoMonth
    ∷ no_bs (bs 102 13 1) NoYear
    ∷ no_ad (date 1952 1 2) (After 1)
    ∷ no_ad (date 1949 12 31) (Before 1)
    ∷ step 100 12 (pos 1) (record { year = 101; month = 1 })
    ∷ no_step 100 1 (negsuc 0) OffTable
    ∷ []
