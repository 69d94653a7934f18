-- `kept::take_rules` meets its contract. Assumes nothing.
use Rattle.kept.specs.Operations.{take_rules}
use Rattle.kept.specs.Inner.{taking}
use Rattle.kept.proofs.Outcomes.{done_as}
use Rattle.kept.proofs.take_rules.Goals as goal

pub returns : goal.returns
unfolding take_rules taking
returns c = λ w. rw c.done.ensures (done_as c.args.state w _ _ (c.with_rules.ensures w))
