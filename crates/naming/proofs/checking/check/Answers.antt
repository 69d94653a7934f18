-- `naming::checking::check` meets its contract: what is told of the lines to come. Assumes nothing.
use native.Mathlib.Omega.{arith}
use mathlib.Core.Path.{sym, ◌∙◌}
use Rattle.naming.proofs.Splits.{line_at_law}
use Rattle.naming.proofs.Checks.{check_marked, check_first, check_over, check_wrong, check-unfed, check-turn}
use Rattle.naming.proofs.checking.check.Goals as goal

pub returns-then-marked : goal.returns-then-marked
returns-then-marked c = check_marked c.args.file.now (sym c.marked.ensures ∙ c.if-marked.true)

pub loop-at-init : goal.loop-at-init
loop-at-init c = (omega arith, omega arith, check_first c.args.file.now (sym c.marked.ensures ∙ c.if-marked.false))

pub slice_bounds-judge-end : goal.slice_bounds-judge-end
slice_bounds-judge-end c = let l = c.loop-at in
    let e = c.line_end-end in
    let r = line_at_law c.args.file.now l.at e.result (omega arith) e.ensures in
    omega arith

pub returns-in-Err : goal.returns-in-Err
returns-in-Err c = let l = c.loop-at in
    let e = c.line_end-end in
    check_wrong c.args.file.now l.at e.result l.line l.least c.loop-at-test.true e.ensures c.in-Err.fault (sym c.in-Err.is ∙ c.judge.ensures) ∙ l.invariant.2

pub returns-then-end-file : goal.returns-then-end-file
returns-then-end-file c = let l = c.loop-at in
    let e = c.line_end-end in
    let r = line_at_law c.args.file.now l.at e.result (omega arith) e.ensures in
    check-unfed c.args.file.now l.at e.result l.line l.least c.loop-at-test.true e.ensures c.in-Ok.number (sym c.in-Ok.is ∙ c.judge.ensures) (omega arith) ∙ l.invariant.2

pub loop-at-preserved : goal.loop-at-preserved
loop-at-preserved c = let u = c.if-end-file.false in
    let l = c.loop-at in
    let e = c.line_end-end in
    let r = line_at_law c.args.file.now l.at e.result (omega arith) e.ensures in
    (omega arith, omega arith, check-turn c.args.file.now l.at e.result l.line l.least c.loop-at-test.true e.ensures c.in-Ok.number (sym c.in-Ok.is ∙ c.judge.ensures) (omega arith) ∙ l.invariant.2)
