-- `kept::months::ask_month` meets its contract. Assumes nothing.
use Rattle.kept.proofs.Replies.{asked-month}
use Rattle.kept.proofs.months.ask_month.Goals as goal

pub returns : goal.returns
returns c = λ w.
    let a = c.args in
    asked-month a.state w _ _ c.front.ensures c.front-2.ensures a.today a.year a.month a.cells.now a.festivals.now _ _ _ _ c.show_month-drawn.ensures c.asked.ensures
