-- `kept::asking::list_ad` meets its contract. Assumes nothing.
use mathlib.Core.Path.{refl, sym, ap, ◌∙◌}
use Rattle.paper.proofs.Answers.{passed_on}
use Rattle.conversion.specs.Calendar.{from_day}
use Rattle.conversion.specs.Flat.{flat}
use Rattle.conversion.proofs.Ad.{from_ad_law}
use Rattle.rules.specs.Rules.{rules_of, accepted_rules}
use Rattle.rules.proofs.Lent.{accepted_both}
use Rattle.rules.proofs.Questions.{ad_lent, ad-no-date, ad-list}
use Rattle.festivals.specs.Kathmandu.{kathmandu}
use Rattle.festivals.proofs.Numbered.{its_number}
use Rattle.kept.specs.Operations.{drawn_on}
use Rattle.kept.proofs.Replies.{none_in, some_in, day_rowless, day_behind, day_not, day_by_law}
use Rattle.kept.proofs.asking.list_ad.Goals as goal

pub returns-then-is_empty : goal.returns-then-is_empty
returns-then-is_empty c = λ g. let a = c.args in day_rowless _ _ _ a.rows.now (none_in _ c.if-is_empty.ensures) _ a.out.now

-- what is lent was accepted
pub list_placed-requires : goal.list_placed-requires
list_placed-requires c = accepted_both (flat c.args.table c.args.rows.now) _ c.in_ok-accept.ensures

pub returns-in_err-accept : goal.returns-in_err-accept
returns-in_err-accept c = λ g.
    let a = c.args in
    let xs = a.rules.now in
    let e = ad_lent kathmandu (flat a.table a.rows.now) (rules_of xs) (accepted_rules xs) a.ad.year a.ad.month a.ad.day _ c.in_err-accept.ensures in
    day_behind _ _ _ a.rows.now (some_in _ c.if-is_empty.ensures) a.out.now (day_not _ _ _ _ _ a.out.now e (passed_on _ c.from_residual.ensures.1 refl))

pub returns-in_err-number : goal.returns-in_err-number
returns-in_err-number c = λ g.
    let a = c.args in
    let xs = a.rules.now in
    let b = accepted_both (flat a.table a.rows.now) _ c.in_ok-accept.ensures in
    let e = ad-no-date kathmandu (flat a.table a.rows.now) (rules_of xs) (accepted_rules xs) a.ad.year a.ad.month a.ad.day b.0 b.1 _ c.in_err-number.ensures in
    day_behind _ _ _ a.rows.now (some_in _ c.if-is_empty.ensures) a.out.now (day_not _ _ _ _ _ a.out.now e (passed_on _ c.from_residual-in_err-number.ensures.1 refl))

pub returns : goal.returns
returns c = λ g.
    let a = c.args in
    let k = flat a.table a.rows.now in
    let xs = a.rules.now in
    let b = accepted_both k _ c.in_ok-accept.ensures in
    let n = its_number _ _ c.in_ok-number.ensures in
    let e = ad-list kathmandu k (rules_of xs) (accepted_rules xs) a.ad.year a.ad.month a.ad.day b.0 b.1 n.0 _ n.1 in
    let d = ap (drawn_on k) (from_ad_law k a.ad.year a.ad.month a.ad.day b.0 n.0 ∙ ap (from_day k) (sym n.1)) in
    day_behind _ _ _ a.rows.now (some_in _ c.if-is_empty.ensures) a.out.now (day_by_law a.out.now d e (c.list_placed.ensures g))
