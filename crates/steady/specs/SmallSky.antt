-- The festival rules over a sky and a calendar of a few numbers, small enough to follow with a pencil. Assumes nothing.
-- A day has ten instants: instant 304 is instant 4 of day 30. A month has ten days and a year twelve months: day 30 is day 1 of month 4 of year 1,
-- and day 121 is day 2 of month 1 of year 2.
use Rattle.std.specs.Prelude.{ℕ, ◌+◌, ◌-◌, ◌*◌, ◌/◌, ◌≡◌, true, false, cond, [], ◌∷◌, leb, ltb, get_or, None, Ok, Some}
use Rattle.conversion.specs.Calendar.{Calendar, bs}
use Rattle.rules.specs.declared.Rule.{Rule}
use Rattle.rules.specs.Sky.{Sky}
use Rattle.rules.specs.Days.{udaya, nishita, begins, claims, claimed, festival_day}
use Rattle.rules.specs.Festivals.{in_month, opening, entry, day_pairs, day_list}
use Rattle.holiday.specs.Holiday.{holiday_by}

-- ---- the calendar and the sky

-- years 1 and 2, from day 0 on
abbrev pub calendar : Calendar
calendar = record { good = true; first = 1; start = 0; years = 2; len = λ i m. 10 }

-- how long after its new moon a tithi begins: tithis 1 to 4 after 0, 5, 13 and 15, each later one 10 after the one before
abbrev pub after : ℕ → ℕ
after t = cond (leb 4 t) (10 * t - 25) (get_or (0 ∷ 0 ∷ 5 ∷ 13 ∷ []) t 0)

-- New moons at 205 and 290, both in month 3 of year 1, and at 1110, in its month 12. A tithi ends where the next begins.
-- Sunrise (udaya) is instant 2 of its day and kalas 1, 2 and 3 are 4, 6 and 8; nishita is from 9 to 1 of the next day.
abbrev pub sky : Sky ℕ
sky =
    record {
      new_moons = λ a b. 205 ∷ 290 ∷ 1110 ∷ [];
      day_of = λ x. Some (x / 10);
      start_of = λ t x. Some (x + after t);
      end_of = λ t b. Some (b + (after (t + 1) - after t));
      kala_on = λ k n. Some (10 * n + 2 + 2 * k);
      nishita_on = λ n. Some (10 * n + 9, 10 * n + 11);
      not_after = leb;
      before = ltb;
    }

-- ---- the rules

-- tithi 2 of lunar month 3 at kala 1
abbrev pub second : Rule
second = record { kind = 3; year = 0; month = 3; day = 2; half = 0; kala = 1; name = 5; holiday = 0 }

-- tithi 12 of lunar month 12 at kala 1, a holiday
abbrev pub late : Rule
late = record { kind = 3; year = 0; month = 12; day = 12; half = 0; kala = 1; name = 7; holiday = 1 }

-- an override of year y with the name of `late`, on day 5 of month 5
abbrev pub instead : ℕ → Rule
instead y = record { kind = 4; year = y; month = 5; day = 5; half = 0; kala = 0; name = 7; holiday = 0 }

-- a fixed date, day 2 of month 1, with a name and a holiday mark
abbrev pub fixed_on : ℕ → ℕ → Rule
fixed_on name holiday = record { kind = 1; year = 0; month = 1; day = 2; half = 0; kala = 0; name = name; holiday = holiday }

-- ---- what the definitions say of them

pub record SmallSky : Type 0 where
  -- month 3 of year 1 holds two new moons, and the second opens it; month 5 holds none, and nothing opens it
  pub first_inside : in_month sky calendar 1 3 205 ≡ true
  pub second_inside : in_month sky calendar 1 3 290 ≡ true
  pub second_opens : opening sky calendar 1 3 ≡ Some 290
  pub none_opens : opening sky calendar 1 5 ≡ None
  -- nishita of day 30 is 309 to 311: a tithi that ends with it claims the day, one that ends before its end does not
  pub nishita_at_end : claims sky 295 311 nishita 30 ≡ true
  pub nishita_cut : claims sky 295 310 nishita 30 ≡ false
  -- and one that begins with it claims the day
  pub nishita_at_start : claims sky 309 320 nishita 30 ≡ true
  -- kala 1 of day 30 is 304: a tithi that ends then does not claim the day, one that ends after it, or begins then, does
  pub kala_at_end : claims sky 295 304 1 30 ≡ false
  pub kala_before_end : claims sky 295 305 1 30 ≡ true
  pub kala_at_start : claims sky 304 305 1 30 ≡ true
  -- tithi 4, from 305 to 315, claims day 31 at kala 1
  pub by_kala : festival_day sky 4 1 305 ≡ Some 31
  -- tithi 2, from 295 to 303, claims no day at kala 1; it claims day 30 at udaya, though it begins on day 29
  pub no_kala : claimed sky 295 303 1 29 ≡ None
  pub by_udaya : festival_day sky 2 1 295 ≡ Some 30
  -- tithi 3, from 303 to 305, claims no day at kala 2 and none at udaya: it is kept on day 30, on which it begins
  pub no_udaya : claimed sky 303 305 udaya 30 ≡ None
  pub by_beginning : festival_day sky 3 2 303 ≡ Some 30
  -- kala 5 is the day of beginning, at once
  pub at_once : festival_day sky 2 begins 295 ≡ Some 29
  -- the rule of tithi 2 in year 1, from the second new moon; there is no such day in year 2, whose month 3 has no new moon
  pub resolved : entry sky calendar 1 second ≡ Some 30
  pub unresolved : entry sky calendar 2 second ≡ None
  -- the late rule of year 1 falls on day 121, in month 1 of year 2, and stands in that day's list
  pub year_before : day_list sky calendar (late ∷ []) (bs 2 1 2) 121 ≡ (7, 1) ∷ []
  -- an override of year 2, the day's own, silences it; an override of year 1, in which it was resolved, does not
  pub silenced_by_own : day_list sky calendar (late ∷ instead 2 ∷ []) (bs 2 1 2) 121 ≡ []
  pub not_by_before : day_list sky calendar (late ∷ instead 1 ∷ []) (bs 2 1 2) 121 ≡ (7, 1) ∷ []
  -- of neighbours with one name the first is kept, and the holiday mark goes with the one removed; one with another name between them keeps both
  pub before_removal : day_pairs sky calendar (late ∷ fixed_on 7 0 ∷ []) (bs 2 1 2) 121 ≡ (7, 0) ∷ (7, 1) ∷ []
  pub removed : day_list sky calendar (late ∷ fixed_on 7 0 ∷ []) (bs 2 1 2) 121 ≡ (7, 0) ∷ []
  pub apart : day_list sky calendar (late ∷ fixed_on 7 0 ∷ fixed_on 8 0 ∷ []) (bs 2 1 2) 121 ≡ (7, 0) ∷ (8, 0) ∷ (7, 1) ∷ []
  -- day 121 is a Wednesday, and a holiday by the late rule; with the removed mark it is none, with the mark apart it is one again
  pub holiday_marked : holiday_by sky calendar (late ∷ []) true 2 1 2 ≡ Ok true
  pub holiday_removed : holiday_by sky calendar (late ∷ fixed_on 7 0 ∷ []) true 2 1 2 ≡ Ok false
  pub holiday_apart : holiday_by sky calendar (late ∷ fixed_on 7 0 ∷ fixed_on 8 0 ∷ []) true 2 1 2 ≡ Ok true
  -- day 5 is a Saturday, and a holiday without any rule; days 4 and 6 are none
  pub holiday_saturday : holiday_by sky calendar [] true 1 1 6 ≡ Ok true
  pub holiday_friday : holiday_by sky calendar [] true 1 1 5 ≡ Ok false
  pub holiday_sunday : holiday_by sky calendar [] true 1 1 7 ≡ Ok false
