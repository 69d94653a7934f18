-- What the inner functions ask and promise: a page that is written on, and the new moons of a year's lunar months in twelve places. Assumes nothing.
use Rattle.std.specs.Prelude.{ℕ, ◌+◌, ◌-◌, ◌<◌, Bool, ◌&&◌, ◌≡◌, get_or, Float, None}
use Rattle.std.specs.Option.{is_some}
use Rattle.std.specs.Float.Ieee.{eq}
use Rattle.output.specs.declared.Out.{Out}
use Rattle.conversion.specs.Calendar.{Calendar, month_ok}
use Rattle.rules.specs.Days.{holds}
use Rattle.festivals.specs.Kathmandu.{opening_in}
use Rattle.festivals.specs.Months.{month_at}
use Rattle.festivals.specs.declared.months.Months.{Months}
use Rattle.doubtful.specs.declared.page.Page.{Page}

-- other things are written since, under the heading of a year or before that
abbrev pub with_out : Bool → Page → Out → Page
with_out headed p o = record { out = o; headed = headed; near = p.near; first = p.first; second = p.second; empty = p.empty }

-- these are the new moons that open the months of year y
abbrev pub Opened : Calendar → ℕ → Months → Type 0
Opened c y m = (j : ℕ) → j < 12 → month_at m j ≡ opening_in c y (j + 1)

-- place j has a new moon
abbrev pub has_place : Months → ℕ → Bool
has_place m j = is_some (get_or m.opens j None)

-- a new moon is the one at a month's place
unfoldable pub opens_place : Months → ℕ → Float → Bool
opens_place m month x = month_ok month && holds (month_at m (month - 1)) (λ o. eq o x)
