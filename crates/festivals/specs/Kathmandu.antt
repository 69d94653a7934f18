-- The sky over Kathmandu, as the rules ask it. Assumes nothing.
use Rattle.std.specs.Prelude.{ℕ, zero, suc, ◌+◌, Bool, true, false, List, Float, None, Option}
use Rattle.std.specs.Float.Ieee.{le, lt}
use Rattle.std.specs.Result.{result_ok}
use Rattle.paper.specs.Answers.{then}
use Rattle.paper.specs.Floats.{◌⊕◌, ◌⊖◌, dec}
use Rattle.gregorian.specs.Answers.{number_answer}
use Rattle.gregorian.specs.Instants.{zero_of, npt_answer}
use Rattle.sky.specs.Search.{first, starts_of, next_tithi}
use Rattle.panchanga.specs.declared.Kala.{Kala}
use Rattle.panchanga.specs.declared.Kala.TheVariants.{Udaya, Madhyanna, Aparahna, Pradosh, Nishita, Begins}
use Rattle.panchanga.specs.Noaa.{events_on}
use Rattle.panchanga.specs.Noaa as Noaa
use Rattle.panchanga.specs.Kalas.{kala_at, nishita_between}
use Rattle.panchanga.specs.Answers.{mapped}
use Rattle.conversion.specs.declared.BsDate.{BsDate}
use Rattle.conversion.specs.Calendar.{Calendar}
use Rattle.rules.specs.declared.Rule.{Rule}
use Rattle.rules.specs.declared.lists.Years.{Years}
use Rattle.rules.specs.Sky.{Sky}
use Rattle.rules.specs.Festivals.{Pair, last_of, in_month, opening, day_list}
use Rattle.rules.specs.Resolved.{resolved, years_for}

-- ---- the kalas by their numbers

abbrev pub kala_number : Kala → ℕ
kala_number Udaya = 0
kala_number Madhyanna = 1
kala_number Aparahna = 2
kala_number Pradosh = 3
kala_number Nishita = 4
kala_number Begins = 5

abbrev pub kala_named : ℕ → Kala
kala_named zero = Udaya
kala_named (suc zero) = Madhyanna
kala_named (suc (suc zero)) = Aparahna
kala_named (suc (suc (suc zero))) = Pradosh
kala_named (suc (suc (suc (suc zero)))) = Nishita
kala_named (suc (suc (suc (suc (suc k))))) = Begins

abbrev pub is_begins : Kala → Bool
is_begins Udaya = false
is_begins Madhyanna = false
is_begins Aparahna = false
is_begins Pradosh = false
is_begins Nishita = false
is_begins Begins = true

-- ---- what the sky says

-- the day in Nepal at an instant, by its number
unfoldable pub nepal_day : Float → Option ℕ
nepal_day x = result_ok (then (npt_answer x) number_answer)

-- the new moons, where tithi 1 begins, from 35 days before 0h of day a to 5 days after 0h of day b
unfoldable pub moons_around : ℕ → ℕ → List Float
moons_around a b = (starts_of 1 (zero_of a ⊖ dec 35 0) (zero_of b ⊕ dec 5 0)).starts

-- the first start of a tithi from 0.5 to 30.0 days after a new moon
unfoldable pub start_after : ℕ → Float → Option Float
start_after t x = first (starts_of t (x ⊕ dec 5 1) (x ⊕ dec 30 0)).starts

-- the next tithi's first start from 0.1 to 2.5 days after a beginning
unfoldable pub end_after : ℕ → Float → Option Float
end_after t x = first (starts_of (next_tithi t) (x ⊕ dec 1 1) (x ⊕ dec 25 1)).starts

-- sunrise and sunset of a day there
abbrev pub sun_on : ℕ → Option (Float × Float)
sun_on n = events_on Noaa.kathmandu n

-- the instant of a kala on a day, by the sun's events
unfoldable pub kala_of : ℕ → ℕ → Option Float
kala_of k n = mapped (λ e. kala_at (kala_named k) e.0 e.1) (sun_on n)

-- nishita in the night that follows a day
unfoldable pub night_of : ℕ → Option (Float × Float)
night_of n = nishita_between (sun_on n) (sun_on (n + 1))

abbrev pub kathmandu : Sky Float
kathmandu =
    record {
      new_moons = moons_around;
      day_of = nepal_day;
      start_of = start_after;
      end_of = end_after;
      kala_on = kala_of;
      nishita_on = night_of;
      not_after = le;
      before = lt;
    }

-- ---- festivals under this sky, by a calendar and rules

-- the last of some new moons in month m of year y
abbrev pub last_in : Calendar → ℕ → ℕ → List Float → Option Float
last_in c y m xs = last_of (in_month kathmandu c y m) None xs

-- the new moon that opens lunar month m of year y
abbrev pub opening_in : Calendar → ℕ → ℕ → Option Float
opening_in c y m = opening kathmandu c y m

-- the computed entries of year y
abbrev pub resolved_year : Calendar → List Rule → ℕ → List ℕ
resolved_year c rs y = resolved kathmandu c y rs

-- the two years that the lists of month m of year y come from
abbrev pub years_in : Calendar → List Rule → ℕ → ℕ → Years
years_in c rs y m = years_for kathmandu c rs y m

-- the list of day number n, whose BS date is t
abbrev pub day_list_of : Calendar → List Rule → BsDate → ℕ → List Pair
day_list_of c rs t n = day_list kathmandu c rs t n
