-- `patro::years::draw_months` meets its contract: the pages drawn so far and those that are left are the year. Assumes nothing.
use Prim.Native.Nat.{◌≤◌}
use mathlib.Core.Path.{refl, ap, ◌∙◌}
use Rattle.paper.proofs.Answers.{passed_on}
use Rattle.kept.specs.State.{State}
use Rattle.kept.specs.Operations.{empty}
use Rattle.kept.specs.Held.{held}
use Rattle.patro.specs.Inner.{spaced_of}
use Rattle.patro.proofs.Drawing.{draws_refused}
use Rattle.patro.proofs.Months.{sofar_none, sofar-all, sofar-next, sofar-refused}
use borrow.Author.Rules.{rules}
use Rattle.patro.proofs.years.draw_months.Goals as goal

pub loop-month-init : goal.loop-month-init
loop-month-init c =
    let a = c.args in
    let σ = held a.state in
    (refl, c.requires.0, refl, sofar_none σ.table σ.rows σ.rules a.names.now a.today a.year a.page.now)

pub draw_next-drawn-requires : goal.draw_next-drawn-requires
draw_next-drawn-requires c = let l = c.loop-month in (l.invariant.1, ap (λ (σ : State). empty σ.rows) l.invariant.2 ∙ c.requires.1)

pub shape_of-page-in_err-at : goal.shape_of-page-in_err-at
shape_of-page-in_err-at c = search rules

pub returns-in_err-at : goal.returns-in_err-at
returns-in_err-at c =
    let a = c.args in
    let σ = held a.state in
    let l = c.loop-month in
    let h : l.month ≤ 12 = search rules in
    let d = c.draw_next-drawn.ensures in
    let e = ap (λ (σ : State). spaced_of σ a.names.now a.today a.year l.month) l.invariant.2 in
    rw (passed_on _ c.from_residual.ensures.1 refl) (draws_refused (sofar-refused σ.table σ.rows σ.rules a.names.now a.today a.year l.invariant.3 h (rw e at d.laid) c.in_err-at.was))

pub loop-month-preserved : goal.loop-month-preserved
loop-month-preserved c =
    let a = c.args in
    let σ = held a.state in
    let l = c.loop-month in
    let h : l.month ≤ 12 = search rules in
    let d = c.draw_next-drawn.ensures in
    let e = ap (λ (σ : State). spaced_of σ a.names.now a.today a.year l.month) l.invariant.2 in (
      search rules,
      d.ready,
      d.same ∙ l.invariant.2,
      sofar-next σ.table σ.rows σ.rules a.names.now a.today a.year l.invariant.3 h (rw e at d.laid) c.in_ok-at.was,
    )

pub returns : goal.returns
returns c =
    let a = c.args in
    let σ = held a.state in
    let l = c.loop-month in
    sofar-all σ.table σ.rows σ.rules a.names.now a.today a.year l.invariant.3 (search rules)
