-- `files::reading::with_line` meets its contract. Assumes nothing.
use Rattle.std.proofs.Common.{refl, ◌∙◌}
use Rattle.files.proofs.Made.{awaits_is, instead, taken_first, taken_row, line_as, line_good}
use Rattle.files.proofs.reading.with_line.Goals as goal

pub returns-then-awaits : goal.returns-then-awaits
returns-then-awaits c =
    let a = c.args in
    let w = awaits_is a.r.table _ c.is_none-awaits.ensures in
    line_good a.r a.rows.now a.s.now c.read_row-row.ensures (rw (← w) at c.wanted.ensures) c.judge.ensures c.in-Good.is
    (instead c.begun.ensures refl (taken_first a.r a.rows.now c.read_row-row.result.values (w ∙ c.if-awaits.true)))

pub returns-in-Blank : goal.returns-in-Blank
returns-in-Blank c =
    let a = c.args in
    let w = awaits_is a.r.table _ c.is_none-awaits.ensures in
    line_as a.r a.rows.now a.s.now c.read_row-row.ensures (rw (← w) at c.wanted.ensures) c.judge.ensures c.in-Blank.is

pub returns-else-awaits : goal.returns-else-awaits
returns-else-awaits c =
    let a = c.args in
    let w = awaits_is a.r.table _ c.is_none-awaits.ensures in
    line_good a.r a.rows.now a.s.now c.read_row-row.ensures (rw (← w) at c.wanted.ensures) c.judge.ensures c.in-Good.is
    (taken_row a.r a.rows.now c.read_row-row.result.values (w ∙ c.if-awaits.false) c.stored.ensures)

pub returns-in-NoNumber : goal.returns-in-NoNumber
returns-in-NoNumber c =
    let a = c.args in
    let w = awaits_is a.r.table _ c.is_none-awaits.ensures in
    instead c.faulted.ensures refl
    (line_as a.r a.rows.now a.s.now c.read_row-row.ensures (rw (← w) at c.wanted.ensures) c.judge.ensures c.in-NoNumber.is)

pub returns-in-OtherCount : goal.returns-in-OtherCount
returns-in-OtherCount c =
    let a = c.args in
    let w = awaits_is a.r.table _ c.is_none-awaits.ensures in
    instead c.faulted-in-OtherCount.ensures refl
    (line_as a.r a.rows.now a.s.now c.read_row-row.ensures (rw (← w) at c.wanted.ensures) c.judge.ensures c.in-OtherCount.is)
