-- `kept::asking::ask_ad` meets its contract. Assumes nothing.
use Rattle.kept.proofs.Replies.{asked-ad}
use Rattle.kept.proofs.asking.ask_ad.Goals as goal

pub returns : goal.returns
returns c = λ w.
    let a = c.args in
    asked-ad a.state w _ _ c.front.ensures c.front-2.ensures a.year a.month a.day a.out.now _ _ _ c.list_ad-drawn.ensures c.asked.ensures
