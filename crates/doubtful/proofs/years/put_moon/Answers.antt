-- `doubtful::years::put_moon` meets its contract. Assumes nothing.
use mathlib.Core.Path.{◌∙◌}
use Rattle.doubtful.proofs.Sheets.{line_undated, line_other, line-dated}
use Rattle.doubtful.proofs.years.put_moon.Goals as goal

pub returns-in_default : goal.returns-in_default
returns-in_default c = line_undated _ _ _ _ _ _ c.date_of.result c.date_of.ensures c.in_default.is

pub returns-then-date-year : goal.returns-then-date-year
returns-then-date-year c = line_other _ _ _ _ _ _ c.date_of.result c.date_of.ensures c.in-Some.is c.if-date-year.true

pub returns : goal.returns
returns c = c.put_placed_moon.ensures ∙ line-dated _ _ _ _ _ _ c.date_of.result c.date_of.ensures c.in-Some.is c.if-date-year.false
