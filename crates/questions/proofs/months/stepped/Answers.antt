-- Month and step, each in form or not. Assumes nothing.
use Rattle.replies.specs.Replies.{said}
use Rattle.std.proofs.Common.{◌≡◌}
use borrow.Author.Tests.{le-leb, lt-leb}
use mir.Syntax.{w32}
use mir.ValLaws.{to_z-of_z}
use Rattle.questions.specs.Months.{monthly, stepped}
use borrow.Author.Rules.{rules}
use Rattle.questions.proofs.months.stepped.Goals as goal

pub returns-then-month-gt255 : goal.returns-then-month-gt255
unfolding stepped
returns-then-month-gt255 c = rw (← c.small-month.ensures, lt-leb _ _ c.if-month-gt255.true)

pub returns-in_default : goal.returns-in_default
unfolding stepped
returns-in_default c = rw (← c.small-month.ensures, le-leb _ _ c.if-month-gt255.false, ← c.whole.ensures, c.in_default.is)

pub returns : goal.returns
unfolding stepped
returns c =
    let e : c.said.result ≡ said monthly c.step_month-month.result = search rules in
    rw (← c.small.ensures, ← c.small-month.ensures, le-leb _ _ c.if-month-gt255.false, ← c.whole.ensures, c.in-Some.is, e, c.step_month-month.ensures, to_z-of_z w32 c.in-Some.by (search rules))
