-- `gate::reasons::reason_asked` meets its contract. Assumes nothing.
use Rattle.gate.specs.Reasons.{reason_asked}
use Rattle.gate.proofs.reasons.reason_asked.Goals as goal

pub returns-in-Month : goal.returns-in-Month
unfolding reason_asked
returns-in-Month c = rw c.in-Month.is c.reason_on.ensures

pub returns-in-Day : goal.returns-in-Day
unfolding reason_asked
returns-in-Day c = rw c.in-Day.is c.reason_on-in-Day.ensures

pub returns-in-Date : goal.returns-in-Date
returns-in-Date c = rw c.in-Date.is c.reason_on_ad.ensures
