use mathlib.Core.Path.{◌≡◌, refl, sym}
use native.Mathlib.Numerals.{add-one}
use native.Mathlib.Omega.{arith}
use Rattle.paper.proofs.Sums.{sum_zero, sum_step, all_zero, all_suc}
use Rattle.conversion.proofs.Rows.{low, row_says}
use Rattle.conversion.proofs.check.row_days.Goals as goal

pub loop-m-init : goal.loop-m-init
loop-m-init c = (sym (all_zero _), sym (sum_zero (low c.args.rows.now c.args.i)), omega arith)

pub loop-m-preserved : goal.loop-m-preserved
loop-m-preserved c =
    let a = c.args in
    let l = c.loop-m in
    let s = sum_step (low a.rows.now a.i) l.m in
    (rw (add-one, all_suc, l.invariant.0) refl, omega arith, omega arith)

pub returns-then-good : goal.returns-then-good
returns-then-good c =
    let a = c.args in
    let l = c.loop-m in
    let e : l.m ≡ 12 = omega arith in
    let i = rw e at l.invariant in
    rw c.if-good.true at (row_says a.rows.now a.i l.good l.days i.0 i.1)

pub returns-else-good : goal.returns-else-good
returns-else-good c =
    let a = c.args in
    let l = c.loop-m in
    let e : l.m ≡ 12 = omega arith in
    let i = rw e at l.invariant in
    rw c.if-good.false at (row_says a.rows.now a.i l.good l.days i.0 i.1)
