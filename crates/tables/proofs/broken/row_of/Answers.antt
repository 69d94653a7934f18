-- `tables::broken::row_of` meets its contract: the rows that are left. Assumes nothing.
use Rattle.std.proofs.Common.{◌-◌, ◌∙◌, arith}
use native.Mathlib.Nat.{sub-zero}
use Rattle.tables.proofs.Turns.{row_over, row_here, row_turn}
use Rattle.tables.proofs.broken.row_of.Goals as goal

pub returns-in-Some : goal.returns-in-Some
returns-in-Some c = let l = c.loop-i in
    let a = c.args in
    row_here a.rows.now a.n l.i c.loop-i-test.true c.in-Some.ensures c.number_at.ensures ∙ l.invariant

pub loop-i-preserved : goal.loop-i-preserved
loop-i-preserved c = let l = c.loop-i in
    row_turn c.args.rows.now c.args.n l.i c.loop-i-test.true c.in_default.ensures ∙ l.invariant

pub returns : goal.returns
returns c = let l = c.loop-i in row_over c.args.rows.now c.args.n l.i c.loop-i-test.false ∙ l.invariant
