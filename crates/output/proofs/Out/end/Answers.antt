-- `output::Out::end` meets its contract. Assumes nothing.
use borrow.Author.Tests.{not-true, not-false}
use Rattle.output.proofs.Gathering.{ends, ends_none}
use Rattle.output.proofs.Out.end.Goals as goal

pub returns-then-not-self : goal.returns-then-not-self
returns-then-not-self c = ends_none _ c.args.self (not-true _ c.if-not-self.true)

pub returns : goal.returns
returns c = ends c.args.self (not-false _ c.if-not-self.false) (rw (← c.room-o.ensures.at_value.0) c.put.ensures)
