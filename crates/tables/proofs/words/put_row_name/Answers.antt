-- `tables::words::put_row_name` meets its contract. Assumes nothing.
use Rattle.text.proofs.Writes.{then}
use Rattle.tables.specs.Words.{row_text}
use Rattle.tables.proofs.words.put_row_name.Goals as goal

pub returns : goal.returns
unfolding row_text
returns c = rw (← c.wrapping_add_u64.ensures.value, ← c.wrapping_add_u64-2.ensures.value) (then c.put-a.ensures (then c.put_decimal-b.ensures (then c.put-c.ensures c.put_decimal.ensures)))
