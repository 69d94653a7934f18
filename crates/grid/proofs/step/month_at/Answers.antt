-- A count below 0 is refused; any other is a number, whose twelfth is held to the years. Assumes nothing.
use mathlib.Core.Path.{sym, ap, ◌∙◌}
use Rattle.grid.specs.Step.{month_at}
use Rattle.grid.proofs.Signed.{tested, cut, is_number}
use Rattle.grid.proofs.Stepped.{before_zero, too_early, too_late, in_time}
use Rattle.grid.proofs.step.month_at.Goals as goal

pub returns-then-absolute-lt0 : goal.returns-then-absolute-lt0
returns-then-absolute-lt0 c =
    let a = c.args in
    sym (before_zero a.first a.years a.absolute (tested a.absolute c.ranges.absolute c.if-absolute-lt0.true))

pub overflow_cast-months : goal.overflow_cast-months
overflow_cast-months c = cut c.args.absolute c.ranges.absolute c.if-absolute-lt0.false

pub returns-then-year-first : goal.returns-then-year-first
returns-then-year-first c =
    let a = c.args in
    rw (is_number a.absolute c.ranges.absolute c.if-absolute-lt0.false) (sym (too_early a.first a.years _ c.if-year-first.true))

pub returns-then-first-years : goal.returns-then-first-years
returns-then-first-years c =
    let a = c.args in
    rw (is_number a.absolute c.ranges.absolute c.if-absolute-lt0.false) (sym (too_late a.first a.years _ c.if-first-years.true))

pub returns : goal.returns
returns c =
    let a = c.args in
    let e = is_number a.absolute c.ranges.absolute c.if-absolute-lt0.false in
    sym (ap (month_at a.first a.years) e ∙ in_time a.first a.years _ c.if-year-first.false c.if-first-years.false)
