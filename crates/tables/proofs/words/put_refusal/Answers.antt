-- `tables::words::put_refusal` meets its contract. Assumes nothing.
use Rattle.text.proofs.Writes.{then}
use Rattle.tables.specs.Words.{refusal_text}
use Rattle.tables.proofs.words.put_refusal.Goals as goal

pub returns : goal.returns
unfolding refusal_text
returns c = then c.put-c.ensures (then c.put_fault-d.ensures c.put.ensures)
