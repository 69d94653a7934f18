-- `kept::months::show_laid` meets its contract. Assumes nothing.
use mathlib.Core.Path.{refl, sym}
use Rattle.paper.proofs.Answers.{passed_on}
use Rattle.rules.proofs.Questions.{then_not}
use Rattle.kept.proofs.Replies.{month_not}
use Rattle.kept.proofs.months.show_laid.Goals as goal

pub show_days-requires : goal.show_days-requires
show_days-requires c = record { rows_value = c.requires; days_value = c.in_ok-days.ensures }

pub returns-in_err-days : goal.returns-in_err-days
returns-in_err-days c = λ g.
    let a = c.args in
    month_not _ _ _ _ _ a.cells.now a.festivals.now (then_not _ _ _ (sym c.in_err-days.ensures)) (passed_on _ c.from_residual.ensures.1 refl)
