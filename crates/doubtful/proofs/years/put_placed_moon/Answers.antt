-- `doubtful::years::put_placed_moon` meets its contract. Assumes nothing.
use mathlib.Core.Path.{◌∙◌}
use Rattle.doubtful.proofs.Sheets.{placed_in, placed_refused}
use Rattle.doubtful.proofs.years.put_placed_moon.Goals as goal

pub returns : goal.returns
returns c = c.put_dated_moon.ensures ∙ placed_in _ _ _ _ _ _ _ _ c.month_days.result c.month_days.ensures c.args.m c.opens_month-opens.result c.requires.1 c.in-Ok.is c.opens_month-opens.ensures

pub returns-in_default : goal.returns-in_default
returns-in_default c = placed_refused _ _ _ _ _ _ _ _ c.month_days.result c.month_days.ensures c.in_default.is
