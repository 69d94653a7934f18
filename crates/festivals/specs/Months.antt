-- The lunar months of a year in twelve places, and the day of a computed rule by them. Assumes nothing.
use Rattle.std.specs.Prelude.{ℕ, zero, suc, ◌+◌, cond, ◌&&◌, List, [], ◌∷◌, get_or, Float, None, Option, Some}
use Rattle.conversion.specs.Calendar.{Calendar, year_ok}
use Rattle.rules.specs.declared.Rule.{Rule}
use Rattle.rules.specs.Sky.{Sky}
use Rattle.rules.specs.Days.{next, festival_day}
use Rattle.rules.specs.Festivals.{first_day, last_day, tithi, beginning}
use Rattle.festivals.specs.declared.months.Months.{Months}

-- the first and the last day of year y; none where it is not in the table
unfoldable pub year_days : Calendar → ℕ → Option (ℕ × ℕ)
year_days c y = cond (c.good && year_ok c y) (Some (first_day c y, last_day c y)) None

-- f k, f (k + 1), .., f (k + n - 1)
unfoldable pub each : {A : Type 0} → (ℕ → A) → ℕ → ℕ → List A
each f k zero = []
each f k (suc n) = f k ∷ each f (k + 1) n

-- the twelve places; f m is the new moon that opens lunar month m, if one does
unfoldable pub months_by : (ℕ → Option Float) → Months
months_by f = record { opens = each f 1 12 }

-- the new moon of place j, where there is one
unfoldable pub month_at : Months → ℕ → Option Float
month_at m j = get_or m.opens j None

-- the day of a computed rule, by the new moon that opens its lunar month
unfoldable pub day_by : {I : Type 0} → Sky I → Rule → Option I → Option ℕ
day_by s r o = next o (λ x. next (beginning s (tithi r) x) (λ b. festival_day s (tithi r) r.kala b))
