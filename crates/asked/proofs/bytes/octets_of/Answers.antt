-- Behind the tag, or none. Assumes nothing.
use mathlib.Core.Path.{◌∙◌}
use Rattle.text.proofs.Said.{passed_said, passed_unsaid}
use Rattle.asked.proofs.HeldOctets.{octets_none, octets_some}
use Rattle.asked.proofs.bytes.octets_of.Goals as goal

pub returns-in_default : goal.returns-in_default
returns-in_default c = c.no_octets.ensures ∙ octets_none c.args.s.now (rw c.start.ensures at (passed_unsaid c.pass.result c.pass.ensures c.in_default.is))

pub returns : goal.returns
returns c = c.read_octets.ensures ∙ octets_some c.args.s.now _ (rw c.start.ensures at (passed_said c.pass.result c.pass.ensures c.in-Some.is))
