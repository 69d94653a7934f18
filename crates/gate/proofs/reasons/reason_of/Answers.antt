-- That it is a Saturday comes before its list. Assumes nothing.
use Rattle.gate.proofs.Why.{on_saturday, by_list}
use Rattle.gate.proofs.reasons.reason_of.Goals as goal

pub returns-then-weekday_of-eq6 : goal.returns-then-weekday_of-eq6
returns-then-weekday_of-eq6 c = on_saturday _ _ _ c.weekday_of.ensures c.if-weekday_of-eq6.true

pub returns : goal.returns
returns c = by_list _ _ _ c.weekday_of.ensures c.if-weekday_of-eq6.false _ c.by_list.ensures
