-- `kept::asking::ask_bs` meets its contract. Assumes nothing.
use Rattle.kept.proofs.Replies.{asked-bs}
use Rattle.kept.proofs.asking.ask_bs.Goals as goal

pub returns : goal.returns
returns c = λ w.
    let a = c.args in
    asked-bs a.state w _ _ c.front.ensures c.front-2.ensures a.year a.month a.day a.out.now _ _ _ c.list_bs-drawn.ensures c.asked.ensures
