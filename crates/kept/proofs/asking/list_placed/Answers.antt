-- `kept::asking::list_placed` meets its contract. Assumes nothing.
use mathlib.Core.Path.{refl, sym, ap}
use Rattle.paper.proofs.Answers.{passed_on}
use Rattle.conversion.specs.Flat.{flat}
use Rattle.conversion.proofs.Days.{to_from}
use Rattle.rules.proofs.Questions.{then_by, then_not}
use Rattle.kept.specs.Operations.{drawn_on}
use Rattle.kept.proofs.Replies.{day_not, day_by_law}
use Rattle.kept.proofs.asking.list_placed.Goals as goal

pub list_day-requires : goal.list_day-requires
list_day-requires c = record { rows_value = c.requires; day_value = to_from (flat c.args.table c.args.rows.now) _ _ (sym c.in_ok-bs.ensures) }

pub returns-in_err-bs : goal.returns-in_err-bs
returns-in_err-bs c = λ g. day_not _ _ _ _ _ c.args.out.now (then_not _ _ _ (sym c.in_err-bs.ensures)) (passed_on _ c.from_residual.ensures.1 refl)

pub returns : goal.returns
returns c = λ g.
    let e = sym c.in_ok-bs.ensures in
    day_by_law c.args.out.now (ap (drawn_on (flat c.args.table c.args.rows.now)) e) (then_by _ _ _ e) (c.list_day.ensures g)
