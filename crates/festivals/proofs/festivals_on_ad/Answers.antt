-- `festivals::festivals_on_ad` meets its contract. Assumes nothing.
use Rattle.paper.proofs.Answers.{passed_on}
use Rattle.conversion.specs.Flat.{flat, date}
use Rattle.rules.specs.Rules.{rules_of, accepted_rules}
use Rattle.rules.proofs.Listed.{says_refused, says_by}
use Rattle.rules.proofs.Lent.{accepted_both}
use Rattle.rules.proofs.Questions.{ad_lent, ad-no-date, ad-list}
use Rattle.festivals.proofs.Numbered.{its_number, real_numbered}
use Rattle.festivals.proofs.festivals_on_ad.Goals as goal

pub returns-in_err-accept : goal.returns-in_err-accept
returns-in_err-accept c =
    let a = c.args in
    let xs = a.rules.now in
    let e = ad_lent _ (flat a.table a.rows.now) (rules_of xs) (accepted_rules xs) a.year a.month a.day _ c.in_err-accept.ensures in
    let s = says_by e (says_refused _ a.out.now) in
    record { result_value = passed_on _ c.from_residual.ensures.1 s.answer; out_after = s.buffer }

pub returns-in_err-number : goal.returns-in_err-number
returns-in_err-number c =
    let a = c.args in
    let xs = a.rules.now in
    let g = accepted_both (flat a.table a.rows.now) _ c.in_ok-accept.ensures in
    let e = ad-no-date _ (flat a.table a.rows.now) (rules_of xs) (accepted_rules xs) a.year a.month a.day g.0 g.1 _ c.in_err-number.ensures in
    let s = says_by e (says_refused _ a.out.now) in
    record { result_value = passed_on _ c.from_residual-in_err-number.ensures.1 s.answer; out_after = s.buffer }

pub list_placed-requires : goal.list_placed-requires
list_placed-requires c =
    let a = c.args in
    let g = accepted_both (flat a.table a.rows.now) _ c.in_ok-accept.ensures in
    let n = its_number (date a.year a.month a.day) _ c.in_ok-number.ensures in
    (g.0, g.1, real_numbered _ _ n.0 n.1)

pub returns : goal.returns
returns c =
    let a = c.args in
    let xs = a.rules.now in
    let g = accepted_both (flat a.table a.rows.now) _ c.in_ok-accept.ensures in
    let n = its_number (date a.year a.month a.day) _ c.in_ok-number.ensures in
    let e = ad-list _ (flat a.table a.rows.now) (rules_of xs) (accepted_rules xs) a.year a.month a.day g.0 g.1 n.0 _ n.1 in
    let s = says_by e (record { answer = c.list_placed.ensures.result_value; buffer = c.list_placed.ensures.out_after }) in
    record { result_value = s.answer; out_after = s.buffer }
