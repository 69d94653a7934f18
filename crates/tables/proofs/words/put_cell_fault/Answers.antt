-- `tables::words::put_cell_fault` meets its contract. Assumes nothing.
use Rattle.std.proofs.Common.{le-ltb, lt-ltb}
use Rattle.text.proofs.Writes.{then}
use Rattle.tables.specs.Words.{cell_text}
use Rattle.tables.proofs.words.put_cell_fault.Goals as goal

pub returns-then-m-lt12 : goal.returns-then-m-lt12
unfolding cell_text
returns-then-m-lt12 c = rw (lt-ltb c.args.m 12 c.if-m-lt12.true) (then c.put_row_name-a.ensures c.put_month_fault.ensures)

pub returns : goal.returns
unfolding cell_text
returns c = rw (le-ltb c.args.m 12 c.if-m-lt12.false) (then c.put_row_name-a.ensures c.put_sum_fault.ensures)
