use Rattle.paper.proofs.Tests.{in_range_is}
use Rattle.gregorian.specs.Calendar.{is_date}
use Rattle.gregorian.proofs.is_date.Goals as goal

pub returns-then-contains : goal.returns-then-contains
unfolding is_date
returns-then-contains c =
    let s = c.new.ensures in
    let r = c.new-then-contains.ensures in
    let year = rw (s.start, s.end, s.exhausted, in_range_is) at c.if-contains.ensures.value in
    let day = rw (r.start, r.end, r.exhausted, in_range_is, c.month_length.ensures, c.is_leap.ensures) at c.contains-then-contains.ensures.value in
    rw (← year) day

pub returns-else-contains : goal.returns-else-contains
unfolding is_date
returns-else-contains c =
    let s = c.new.ensures in
    let year = rw (s.start, s.end, s.exhausted, in_range_is) at c.if-contains.ensures.value in
    rw (c.if-contains.false, ← year)
