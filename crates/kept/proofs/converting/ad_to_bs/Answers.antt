-- `kept::converting::ad_to_bs` meets its contract. Assumes nothing.
use Rattle.conversion.specs.Calendar.{Calendar, from_ad}
use Rattle.kept.specs.Converting.{ask_from_ad}
use Rattle.kept.proofs.Conversions.{asked_held}
use Rattle.kept.proofs.converting.ad_to_bs.Goals as goal

pub returns : goal.returns
unfolding ask_from_ad
returns c w =
    let a = c.args in
    asked_held a.state w _ c.front.ensures (λ (k : Calendar). from_ad k a.year a.month a.day) _ c.from_ad.ensures
