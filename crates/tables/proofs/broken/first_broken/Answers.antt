-- `tables::broken::first_broken` meets its contract. Assumes nothing.
use Rattle.std.proofs.Common.{Some, sym, ap, ◌∙◌}
use Rattle.tables.proofs.Turns.{whole, broken}
use Rattle.tables.proofs.broken.first_broken.Goals as goal

pub returns-then-accepts : goal.returns-then-accepts
returns-then-accepts c = whole c.args.table c.args.rows.now (sym c.accepts.ensures ∙ c.if-accepts.true)

pub returns : goal.returns
returns c = ap Some c.place_of.ensures ∙ broken c.args.table c.args.rows.now (sym c.accepts.ensures ∙ c.if-accepts.false)
