-- `faults::words::put_range` meets its contract. Assumes nothing.
use Rattle.std.proofs.Common.{eq-eqb, ne_eqb}
use Rattle.text.proofs.Writes.{then}
use Rattle.faults.specs.Words.{range_text}
use Rattle.faults.proofs.words.put_range.Goals as goal

pub returns-then-low-high : goal.returns-then-low-high
unfolding range_text
returns-then-low-high c = let a = c.args in rw (eq-eqb a.low a.high c.if-low-high.true) c.put_decimal.ensures

pub returns : goal.returns
unfolding range_text
returns c = let a = c.args in rw (ne_eqb a.low a.high c.if-low-high.false) (then c.put_decimal-a.ensures (then c.put-b.ensures c.put_decimal-2.ensures))
