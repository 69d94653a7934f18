-- `patro::years::draw_year` meets its contract: what is lent is accepted, and held by a state. Assumes nothing.
use mathlib.Core.Path.{refl, ap, ◌∙◌}
use Rattle.conversion.specs.Flat.{flat}
use Rattle.rules.specs.Rules.{accepted_rules}
use Rattle.rules.proofs.Lent.{accepted_both}
use Rattle.paper.proofs.Answers.{shown, passed_on}
use Rattle.kept.specs.State.{State}
use Rattle.kept.specs.Operations.{empty}
use Rattle.patro.specs.Inner.{year_of}
use Rattle.patro.proofs.Drawing.{draws_refused}
use Rattle.patro.proofs.Rows.{accepted_held}
use Rattle.patro.proofs.Months.{year_not_lent}
use Rattle.patro.proofs.years.draw_year.Goals as goal

pub state_of-requires : goal.state_of-requires
state_of-requires c =
    let a = c.args in
    accepted_both (flat a.table a.rows.now) (accepted_rules a.rules.now) (shown c.in_ok-accept.was c.accept.ensures)

pub draw_months-requires : goal.draw_months-requires
draw_months-requires c =
    let a = c.args in
    let h = c.state_of.ensures in
    let g = accepted_both (flat a.table a.rows.now) (accepted_rules a.rules.now) (shown c.in_ok-accept.was c.accept.ensures) in
    (h.ready, ap (λ (σ : State). empty σ.rows) h.state ∙ accepted_held a.table a.rows.now g.0)

pub returns-in_err-accept : goal.returns-in_err-accept
returns-in_err-accept c =
    let a = c.args in
    rw (passed_on _ c.from_residual.ensures.1 refl) (draws_refused (year_not_lent a.table a.rows.now a.rules.now a.names.now a.today a.year _ (shown c.in_err-accept.was c.accept.ensures)))

pub returns : goal.returns
returns c =
    let a = c.args in
    rw (ap (λ (σ : State). year_of σ a.names.now a.today a.year) c.state_of.ensures.state) at c.draw_months.ensures
