use mathlib.Core.Path.{sym, ◌∙◌}
use Rattle.paper.specs.declared.Refusal.TheVariants.{NoSuchDate}
use Rattle.paper.proofs.Answers.{passed_on, given_on}
use Rattle.conversion.proofs.Accepted.{frame_is, frame_wrong}
use Rattle.conversion.proofs.Ad.{served, number_ad, refused_ad, number_numbered}
use Rattle.conversion.proofs.known.bs_to_ad.Goals as goal

pub returns-in_err-start : goal.returns-in_err-start
returns-in_err-start c g = absurd (frame_wrong _ _ _ c.in_err-start.ensures g)

pub number_of-requires : goal.number_of-requires
number_of-requires c = frame_is _ _ _ c.in_ok-start.ensures

pub returns-in_err-n : goal.returns-in_err-n
returns-in_err-n c g = passed_on _ c.from_residual-in_err-n.ensures.1 (refused_ad _ _ _ _ _ (c.in_err-n.ensures g))

pub returns : goal.returns
returns c g =
    let n = sym (c.in_ok-n.ensures g) in
    let s = served _ _ g in
    c.from_day_number.ensures ∙ given_on _ NoSuchDate _ (number_numbered _ s _ _ _ _ n) ∙ sym (number_ad _ s _ _ _ _ n)
