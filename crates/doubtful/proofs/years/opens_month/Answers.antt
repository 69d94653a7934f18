-- `doubtful::years::opens_month` meets its contract. Assumes nothing.
use borrow.Author.Rules.{rules}
use Rattle.festivals.specs.Months.{month_at}
use Rattle.doubtful.proofs.Sheets.{opens_off, opens_some, opens_none}
use Rattle.doubtful.proofs.years.opens_month.Goals as goal

pub returns-then-month : goal.returns-then-month
returns-then-month c = opens_off c.args.m c.args.month c.args.x c.if-month.true

pub returns-in-Some : goal.returns-in-Some
unfolding month_at
returns-in-Some c = opens_some c.args.m c.args.month c.args.x (search rules) (search rules) c.in-Some.is

pub returns-in-None : goal.returns-in-None
unfolding month_at
returns-in-None c = opens_none c.args.m c.args.month c.args.x (search rules) (search rules) c.in-None.is
