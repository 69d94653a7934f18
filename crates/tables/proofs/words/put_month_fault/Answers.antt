-- `tables::words::put_month_fault` meets its contract. Assumes nothing.
use Rattle.text.proofs.Writes.{then}
use Rattle.tables.specs.Words.{month_text}
use Rattle.tables.proofs.words.put_month_fault.Goals as goal

pub returns : goal.returns
unfolding month_text
returns c = rw (← c.wrapping_add_u64.ensures.value) (then c.put-a.ensures (then c.put_decimal-b.ensures (then c.put-c.ensures (then c.put_decimal-d.ensures c.put.ensures))))
