-- `kept::converting::bs_to_ad` meets its contract. Assumes nothing.
use Rattle.conversion.specs.Calendar.{Calendar, to_ad}
use Rattle.kept.specs.Converting.{ask_to_ad}
use Rattle.kept.proofs.Conversions.{asked_held}
use Rattle.kept.proofs.converting.bs_to_ad.Goals as goal

pub returns : goal.returns
unfolding ask_to_ad
returns c w =
    let a = c.args in
    asked_held a.state w _ c.front.ensures (λ (k : Calendar). to_ad k a.year a.month a.day) _ c.to_ad.ensures
