-- `faults::words::put_refusal` meets its contract. Assumes nothing.
use Rattle.text.proofs.Writes.{then}
use Rattle.faults.specs.Words.{refusal_text}
use Rattle.faults.proofs.words.put_refusal.Goals as goal

pub returns : goal.returns
unfolding refusal_text
returns c = then c.put_place-a.ensures (then c.put-b.ensures (then c.put_fault-c.ensures c.put.ensures))
