-- `kept::can_start` meets its contract. Assumes nothing.
use mathlib.Core.Path.{◌∙◌}
use Rattle.paper.proofs.Answers.{shown}
use Rattle.paper.proofs.Tests.{in_range_is}
use Rattle.kept.proofs.Outcomes.{no_year, no_day, start_test}
use Rattle.kept.proofs.can_start.Goals as goal

pub returns-then-not-contains : goal.returns-then-not-contains
returns-then-not-contains c =
    let s = c.new.ensures in
    no_year c.args.table (rw (s.start, s.end, s.exhausted, in_range_is) at c.if-not-contains.ensures.value)

pub returns-in_default : goal.returns-in_default
returns-in_default c =
    let s = c.new.ensures in
    no_day c.args.table (rw (s.start, s.end, s.exhausted, in_range_is) at c.if-not-contains.ensures.value) _ (shown c.in_default.is c.first_day.ensures)

pub returns : goal.returns
returns c =
    let s = c.new.ensures in
    let t = c.new-2.ensures in
    (rw (t.start, t.end, t.exhausted, in_range_is) at c.contains-2.ensures.value)
    ∙ start_test c.args.table (rw (s.start, s.end, s.exhausted, in_range_is) at c.if-not-contains.ensures.value) _ (shown c.in-Ok.is c.first_day.ensures)
