use mathlib.Core.Path.{◌≡◌, refl, ap, ◌∙◌}
use native.Mathlib.Omega.{arith}
use Rattle.paper.proofs.Sums.{all_zero, all_not, all_step}
use Rattle.conversion.specs.Flat.{row_ok}
use Rattle.conversion.specs.declared.check.Passed.{Passed}
use Rattle.conversion.specs.Inner.{passed}
use Rattle.conversion.proofs.Rows.{row_told, row_broken, rows_most, row_most}
use Rattle.conversion.proofs.Passes.{pass_days, pass_turn}
use Rattle.conversion.proofs.check.pass.Goals as goal

pub loop-i-init : goal.loop-i-init
unfolding passed
loop-i-init c = (all_zero _, refl)

pub returns-in_err-len : goal.returns-in_err-len
returns-in_err-len c =
    let a = c.args in
    let l = c.loop-i in
    rw (c.from_residual.ensures, all_not (row_ok a.rows.now) a.count l.i c.loop-i-test.true (row_broken a.rows.now l.i c.in_err-len.ensures)) refl

pub overflow_add-p : goal.overflow_add-p
overflow_add-p c =
    let a = c.args in
    let l = c.loop-i in
    let r = row_told _ _ _ c.in_ok-len.ensures in
    omega (arith, ap (λ (p : Passed). p.days) l.invariant.1, pass_days a.rows.now l.i a.until a.day, rows_most _ _ l.invariant.0, r.1, row_most _ _ r.0)

pub loop-i-preserved : goal.loop-i-preserved
loop-i-preserved c =
    let l = c.loop-i in
    let r = row_told _ _ _ c.in_ok-len.ensures in
    (all_step _ _ l.invariant.0 r.0, c.further-p.ensures ∙ pass_turn _ _ _ _ _ l.p l.invariant.1 r.1)

pub returns : goal.returns
returns c =
    let l = c.loop-i in
    let e : l.i ≡ c.args.count = omega arith in
    let i = rw e at l.invariant in
    rw (i.0, i.1)
