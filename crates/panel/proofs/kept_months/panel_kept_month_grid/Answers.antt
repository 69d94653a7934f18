use Rattle.conversion.specs.Flat.{date}
use Rattle.kept.specs.State.{State}
use Rattle.kept.specs.Operations.{ask_month}
use Rattle.panel.proofs.Arrays.{refuses, answers, handed_month}
use Rattle.panel.proofs.kept_months.panel_kept_month_grid.Goals as goal

pub returns-then-is_short : goal.returns-then-is_short
returns-then-is_short c = refuses c.if-is_short.ensures c.number.ensures

pub returns : goal.returns
returns c =
    let a = c.args in
    let today = date a.today_year a.today_month a.today_day in
    answers c.if-is_short.ensures (λ σ m.
    handed_month m c.kept_of.ensures _ (λ (τ : State). ask_month τ today a.year a.month a.cells.now a.festivals.now) _ c.ask_month-asked.ensures c.give_grid.ensures
    c.keep.ensures)
