-- `tables::broken::column_of` meets its contract: the columns that are left, and the days of those before. Assumes nothing.
use Rattle.std.proofs.Common.{◌-◌, sym, refl, ◌∙◌, arith}
use Rattle.paper.proofs.Sums.{sum_zero, sum_step}
use Rattle.conversion.specs.Flat.{lens}
use Rattle.tables.proofs.Turns.{column_short, column_long, column_turn, column_good, column_sum}
use Rattle.tables.proofs.broken.column_of.Goals as goal

pub loop-m-init : goal.loop-m-init
loop-m-init c = (sym (sum_zero (lens c.args.rows.now c.args.i)), omega arith, refl)

pub returns-then-len-lt-SHORTEST : goal.returns-then-len-lt-SHORTEST
returns-then-len-lt-SHORTEST c = let l = c.loop-m in
    let a = c.args in
    column_short a.rows.now a.i l.m c.loop-m-test.true c.number_at-len.ensures c.if-len-lt-SHORTEST.true ∙ l.invariant.2

pub returns-then-len-gt-LONGEST : goal.returns-then-len-gt-LONGEST
returns-then-len-gt-LONGEST c = let l = c.loop-m in
    let a = c.args in
    column_long a.rows.now a.i l.m c.loop-m-test.true c.number_at-len.ensures c.if-len-lt-SHORTEST.false c.if-len-gt-LONGEST.true ∙ l.invariant.2

pub loop-m-preserved : goal.loop-m-preserved
loop-m-preserved c = let l = c.loop-m in
    let a = c.args in
    let e = c.number_at-len.ensures in
    let s = sum_step (lens a.rows.now a.i) l.m in
    (omega arith, omega arith, column_turn a.rows.now a.i l.m c.loop-m-test.true e c.if-len-lt-SHORTEST.false c.if-len-gt-LONGEST.false ∙ l.invariant.2)

pub returns-then-number_at-days : goal.returns-then-number_at-days
returns-then-number_at-days c = let l = c.loop-m in
    let a = c.args in
    column_good a.rows.now a.i l.m l.days c.loop-m-test.false (omega arith) l.invariant.0 c.number_at.ensures c.if-number_at-days.true ∙ l.invariant.2

pub returns-else-number_at-days : goal.returns-else-number_at-days
returns-else-number_at-days c = let l = c.loop-m in
    let a = c.args in
    column_sum a.rows.now a.i l.m l.days c.loop-m-test.false (omega arith) l.invariant.0 c.number_at.ensures c.if-number_at-days.false ∙ l.invariant.2
