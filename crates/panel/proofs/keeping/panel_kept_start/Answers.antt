use borrow.Author.Tests.{ltb-true, ltb-false}
use mathlib.Core.Path.{sym, ◌∙◌}
use Rattle.panel.proofs.Arrays.{not_started, started_short, started}
use Rattle.panel.proofs.keeping.panel_kept_start.Goals as goal

-- past the refusal of the table
pub returns-then-is_short : goal.returns-then-is_short
returns-then-is_short c =
    let s = rw c.table_of.ensures at c.start-started.ensures in
    started_short _ _ (sym c.in_default.is ∙ s.answer) (ltb-true _ _ (sym c.if-is_short.ensures)) c.number-then-is_short.ensures

pub returns-in-Err : goal.returns-in-Err
returns-in-Err c =
    let s = rw c.table_of.ensures at c.start-started.ensures in
    not_started _ _ _ (sym c.in-Err.is ∙ s.answer) c.number.ensures

pub returns : goal.returns
returns c =
    let s = rw c.table_of.ensures at c.start-started.ensures in
    let e = c.in_default.is in
    started _ _ _ (sym e ∙ s.answer) (s.ready e) (ltb-false _ _ (sym c.if-is_short.ensures)) c.put.ensures
