-- A new moon beside the 0h Nepal time at which a solar month begins. Assumes nothing.
use Rattle.std.specs.Prelude.{ℕ, Bool, true, false, cond, leb, eqb, pos, Float, Err, None, Ok, Option, Some}
use Rattle.paper.specs.Answers.{Answer}
use Rattle.paper.specs.Floats.{◌⊕◌, ◌⊖◌, ◌⊗◌, dec, whole}
use Rattle.gregorian.specs.Instants.{local_day}
use Rattle.conversion.specs.declared.BsDate.{BsDate}
use Rattle.conversion.specs.Calendar.{Calendar, from_day}
use Rattle.panchanga.specs.Clock.{rounded}
use Rattle.rules.specs.Days.{next}
use Rattle.festivals.specs.Kathmandu.{nepal_day}

-- ---- the day of a new moon

abbrev pub day_and : ℕ → Answer BsDate → Option (ℕ × BsDate)
day_and n (Ok t) = Some (n, t)
day_and n (Err k) = None

-- the day in Nepal of an instant and its BS date, where the table has one
unfoldable pub dated_moon : Calendar → Float → Option (ℕ × BsDate)
dated_moon c x = next (nepal_day x) (λ n. day_and n (from_day c n))

-- ---- how near

-- the minutes from one local day to a later one, rounded half upward. 0h Nepal time of day n is the local day n
unfoldable pub minutes_to : Float → Float → ℕ
minutes_to a b = rounded ((b ⊖ a) ⊗ dec 1440 0)

-- at most twelve hours before
abbrev pub before : ℕ → Option (Bool × ℕ)
before m = cond (leb m 720) (Some (false, m)) None

-- an instant of day n, which is day d of a month of so many days: so many minutes after the month's 0h on its first day, whatever the hour;
-- so many before the next month's, at most twelve hours; else it is far from both
unfoldable pub nearness : Float → ℕ → ℕ → ℕ → Option (Bool × ℕ)
nearness x n d len =
    cond (eqb d 1) (Some (true, minutes_to (whole (pos n)) (local_day x)))
    (cond (eqb d len) (before (minutes_to (local_day x) (whole (pos n) ⊕ dec 1 0))) None)
