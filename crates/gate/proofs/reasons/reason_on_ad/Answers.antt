-- `gate::reasons::reason_on_ad` meets its contract. Assumes nothing.
use Rattle.paper.proofs.Answers.{shown, passed_on}
use Rattle.gate.specs.Reasons.{reason_asked}
use Rattle.gate.proofs.reasons.reason_on_ad.Goals as goal

pub returns : goal.returns
unfolding reason_asked
returns c = rw (← shown c.in_ok-bs.was c.ad_to_bs.ensures) c.reason_on.ensures

pub returns-in_err-bs : goal.returns-in_err-bs
unfolding reason_asked
returns-in_err-bs c = passed_on _ c.from_residual.ensures.1 (rw (← shown c.in_err-bs.was c.ad_to_bs.ensures))
