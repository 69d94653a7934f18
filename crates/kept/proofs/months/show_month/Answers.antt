-- `kept::months::show_month` meets its contract. Assumes nothing.
use mathlib.Core.Path.{refl}
use Rattle.paper.proofs.Answers.{passed_on}
use Rattle.conversion.specs.Flat.{flat}
use Rattle.rules.proofs.Lent.{accepted_both}
use Rattle.festivals.proofs.Numbered.{its_number}
use Rattle.grid.proofs.Asked.{not_lent, no_today, by_length}
use Rattle.kept.proofs.Replies.{none_in, some_in, month_rowless, month_behind, month_not, month_by}
use Rattle.kept.proofs.months.show_month.Goals as goal

pub returns-then-is_empty : goal.returns-then-is_empty
returns-then-is_empty c = λ g. let a = c.args in month_rowless _ _ _ a.rows.now (none_in _ c.if-is_empty.ensures) _ a.cells.now a.festivals.now

-- what is lent was accepted
pub show_laid-requires : goal.show_laid-requires
show_laid-requires c = accepted_both (flat c.args.table c.args.rows.now) _ c.in_ok-accept.ensures

pub returns-in_err-accept : goal.returns-in_err-accept
returns-in_err-accept c = λ g.
    let a = c.args in
    let e = not_lent (flat a.table a.rows.now) _ _ _ _ _ _ _ _ _ c.in_err-accept.ensures in
    month_behind _ _ _ a.rows.now (some_in _ c.if-is_empty.ensures) a.cells.now a.festivals.now (month_not _ _ _ _ _ a.cells.now a.festivals.now e (passed_on _ c.from_residual.ensures.1 refl))

pub returns-in_err-day_number : goal.returns-in_err-day_number
returns-in_err-day_number c = λ g.
    let a = c.args in
    let b = accepted_both (flat a.table a.rows.now) _ c.in_ok-accept.ensures in
    let e = no_today (flat a.table a.rows.now) _ _ _ _ _ _ _ _ b.0 b.1 _ c.in_err-day_number.ensures in
    month_behind _ _ _ a.rows.now (some_in _ c.if-is_empty.ensures) a.cells.now a.festivals.now (month_not _ _ _ _ _ a.cells.now a.festivals.now e (passed_on _ c.from_residual-in_err-day_number.ensures.1 refl))

pub returns : goal.returns
returns c = λ g.
    let a = c.args in
    let b = accepted_both (flat a.table a.rows.now) _ c.in_ok-accept.ensures in
    let q = its_number _ _ c.in_ok-day_number.ensures in
    let e = by_length (flat a.table a.rows.now) _ _ _ _ _ _ _ _ b.1 q.0 in
    month_behind _ _ _ a.rows.now (some_in _ c.if-is_empty.ensures) a.cells.now a.festivals.now (month_by a.cells.now a.festivals.now e (c.show_laid.ensures g))
