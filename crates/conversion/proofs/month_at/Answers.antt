use mathlib.Core.Path.{sym, ◌∙◌}
use Rattle.paper.proofs.Tests.{in_range_is}
use Rattle.conversion.specs.Calendar.{month_len}
use Rattle.conversion.proofs.month_at.Goals as goal

pub returns-then-not-is_year : goal.returns-then-not-is_year
unfolding month_len
returns-then-not-is_year c = rw (sym c.is_year.ensures ∙ c.if-not-is_year.true)

pub returns-then-not-contains : goal.returns-then-not-contains
unfolding month_len
returns-then-not-contains c =
    let s = c.new.ensures in
    let month = rw (s.start, s.end, s.exhausted, in_range_is) at c.if-not-contains.ensures.value in
    rw (sym c.is_year.ensures ∙ c.if-not-is_year.false, ← month)

pub returns : goal.returns
unfolding month_len
returns c =
    let s = c.new.ensures in
    let month = rw (s.start, s.end, s.exhausted, in_range_is) at c.if-not-contains.ensures.value in
    rw (c.number_at.ensures, c.row_of.ensures, sym c.is_year.ensures ∙ c.if-not-is_year.false, ← month)
