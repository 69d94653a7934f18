-- The month by its length, or the refusal of the length. Assumes nothing.
use mathlib.Core.Path.{sym, ap, subst⁻¹, ◌∙◌}
use lib.ListN.{length}
use Rattle.paper.proofs.Answers.{passed_on}
use Rattle.rules.proofs.Questions.{then_by, then_not}
use Rattle.grid.specs.declared.page.Plan.{Plan}
use Rattle.grid.specs.Month.{Grid, fitted}
use Rattle.grid.specs.Inner.{Planned}
use Rattle.grid.proofs.Grids.{says_refused, says_by}
use Rattle.grid.proofs.Plans.{planned, same-grid}
use Rattle.grid.proofs.lay_month.Goals as goal

pub returns-in_err-days : goal.returns-in_err-days
returns-in_err-days c =
    let a = c.args in
    let r = says_refused _ _ a.cells.now a.festivals.now (then_not _ _ _ (sym c.in_err-days.ensures)) in
    record { result_value = passed_on _ c.from_residual.ensures.1 r.answer; cells_after = r.first; festivals_after = r.second }

pub write_month-requires : goal.write_month-requires
write_month-requires c =
    let p = planned c.args.table c.args.rows.now c.requires.0 _ _ _ c.in_ok-days.ensures _ _ in
    record { rules_value = c.requires.1; planned = subst⁻¹ (λ (q : Plan). Planned q) c.plan_of-plan.ensures p }

pub returns : goal.returns
returns c =
    let a = c.args in
    let h = c.in_ok-days.ensures in
    let g = same-grid a.table a.rows.now c.requires.0 _ _ _ h a.rules.now c.requires.1 _ _ c.years_for-years.ensures _ c.plan_of-plan.ensures in
    let f = ap (λ (g : Grid). fitted g (length a.cells.now) (length a.festivals.now)) g in
    let w = c.write_month.ensures in
    let r = says_by (then_by _ _ _ (sym h) ∙ f) (record { answer = w.result_value; first = w.cells_after; second = w.festivals_after }) in
    record { result_value = r.answer; cells_after = r.first; festivals_after = r.second }
