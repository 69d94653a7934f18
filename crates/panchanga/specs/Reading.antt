-- The lunar-day reading of a date: what a calendar prints under the number. Assumes nothing.
use Rattle.std.specs.Prelude.{ℕ, Bool, false, cond, ◌&&◌, ◌==◌, Float, Err, None, Ok, Option, Some}
use Rattle.paper.specs.Answers.{Answer}
use Rattle.paper.specs.Floats.{◌⊕◌, ◌⊖◌, dec}
use Rattle.gregorian.specs.declared.Date.{Date}
use Rattle.gregorian.specs.Instants.{zero_of, npt_offset, npt_answer}
use Rattle.sky.specs.Tithi.{elongation_of, tithi_of}
use Rattle.sky.specs.Search.{end_of}
use Rattle.panchanga.specs.declared.Place.{Place}
use Rattle.panchanga.specs.declared.lunar.Reading.{Reading}
use Rattle.panchanga.specs.Clock.{clock_of}
use Rattle.panchanga.specs.Noaa.{events_on}

-- whether an answered date is x
abbrev pub same_date : Date → Answer Date → Bool
same_date x (Ok d) = d.year == x.year && (d.month == x.month && d.day == x.day)
same_date x (Err k) = false

-- the minute at which a tithi ends, if that falls on the date in Nepal; else 1,440
unfoldable pub end_on : Date → Option Float → ℕ
end_on x None = 1440
end_on x (Some e) = cond (same_date x (npt_answer e)) (clock_of e) 1440

-- the tithi at an instant that names the day, its end, and the minutes of sunrise and sunset
abbrev pub reading_at : Date → Float → ℕ → ℕ → Reading
reading_at x at rise set =
    let n = tithi_of (elongation_of at) in
    record { tithi = n; end = end_on x (end_of n at); sunrise = rise; sunset = set }

-- a quarter of the day in Nepal, on the day with number n
unfoldable pub morning : ℕ → Float
morning n = zero_of n ⊕ (dec 25 2 ⊖ npt_offset)

-- sunrise names the day; without it the morning does, and none is 1,440
abbrev pub reading_by : Date → ℕ → Option (Float × Float) → Reading
reading_by x n (Some e) = reading_at x e.0 (clock_of e.0) (clock_of e.1)
reading_by x n None = reading_at x (morning n) 1440 1440

-- the reading at a place of the date x, whose number is n
abbrev pub reading_of : Place → Date → ℕ → Reading
reading_of p x n = reading_by x n (events_on p n)
