-- `kept::forget` meets its contract. Assumes nothing.
use Rattle.kept.specs.Held.{held}
use Rattle.kept.proofs.Records.{forgot}
use Rattle.kept.proofs.Goods.{good_forgotten}
use Rattle.kept.proofs.forget.Goals as goal

pub returns : goal.returns
returns c = λ w.
    let k = c.args.state in
    forgot k w (good_forgotten (held k) w.good) _ _ c.no_years.ensures c.with_store.ensures
