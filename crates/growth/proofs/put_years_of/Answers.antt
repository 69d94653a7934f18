-- `growth::put_years_of` meets its contract. Assumes nothing.
use Rattle.output.proofs.Pieces.{puts_as, puts_none}
use Rattle.growth.proofs.Pages.{no_first, no_last, span-is}
use Rattle.growth.proofs.put_years_of.Goals as goal

pub returns-in_default : goal.returns-in_default
returns-in_default c = puts_as (no_first _ _ _ _ c.year_days.result c.year_days.ensures c.in_default.is) (puts_none _ _)

pub returns-in_default-year_days : goal.returns-in_default-year_days
returns-in_default-year_days c = puts_as (no_last _ _ _ _ c.year_days.result c.year_days.ensures c.in-Some.is c.year_days-2.result c.year_days-2.ensures c.in_default-year_days.is) (puts_none _ _)

pub returns : goal.returns
returns c = puts_as (span-is _ _ _ _ c.year_days.result c.year_days.ensures c.in-Some.is c.year_days-2.result c.year_days-2.ensures c.in-Some-year_days.is) c.put_years_line.ensures
