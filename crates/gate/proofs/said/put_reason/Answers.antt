-- `gate::said::put_reason` meets its contract: the text of each reason is put. Assumes nothing.
use Rattle.gate.proofs.said.put_reason.Goals as goal

pub returns-in-Saturday : goal.returns-in-Saturday
returns-in-Saturday c = rw (c.in-Some.is, c.in-Saturday.is) c.put-in-Saturday.ensures

pub returns-in-Festival : goal.returns-in-Festival
returns-in-Festival c = rw (c.in-Some.is, c.in-Festival.is) c.put_festival.ensures
