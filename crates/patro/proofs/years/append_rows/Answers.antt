-- `patro::years::append_rows` meets its contract: the rows before the place are held. Assumes nothing.
use mathlib.Core.Path.{refl}
use native.Mathlib.Omega.{arith}
use Rattle.patro.proofs.Rows.{turn_held, all_held}
use Rattle.patro.proofs.years.append_rows.Goals as goal

pub loop-i-init : goal.loop-i-init
loop-i-init c = c.requires.0

pub loop-i-preserved : goal.loop-i-preserved
loop-i-preserved c =
    let a = c.args in
    let l = c.loop-i in
    turn_held a.state.table a.rows.now l.i c.requires.1 c.loop-i-test.true l.kept l.invariant _ refl _ c.append_row.ensures

pub returns : goal.returns
returns c = let l = c.loop-i in all_held c.args.state.table c.args.rows.now l.i c.requires.1 (omega arith) l.kept l.invariant
