-- `files::telling::put_control` meets its contract. Assumes nothing.
use Rattle.std.proofs.Common.{eq-eqb, ne_eqb}
use Rattle.text.proofs.Writes.{then}
use Rattle.files.specs.Texts.{control_text}
use Rattle.files.proofs.telling.put_control.Goals as goal

pub returns-then-b-eq13 : goal.returns-then-b-eq13
unfolding control_text
returns-then-b-eq13 c = rw (eq-eqb _ 13 c.if-b-eq13.true) c.put.ensures

pub returns-then-b-eq9 : goal.returns-then-b-eq9
unfolding control_text
returns-then-b-eq9 c =
    rw (ne_eqb _ 13 c.if-b-eq13.false, eq-eqb _ 9 c.if-b-eq9.true) c.put-then-b-eq9.ensures

pub returns : goal.returns
unfolding control_text
returns c =
    rw (ne_eqb _ 13 c.if-b-eq13.false, ne_eqb _ 9 c.if-b-eq9.false) (then c.put-a.ensures c.put_decimal.ensures)
