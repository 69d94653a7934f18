-- `kept::asking::list_bs` meets its contract. Assumes nothing.
use mathlib.Core.Path.{refl, sym}
use Rattle.paper.proofs.Answers.{passed_on}
use Rattle.conversion.specs.Flat.{flat}
use Rattle.rules.specs.Rules.{rules_of, accepted_rules}
use Rattle.rules.proofs.Lent.{accepted_both}
use Rattle.rules.proofs.Questions.{bs_lent, bs_refused, bs-list}
use Rattle.festivals.specs.Kathmandu.{kathmandu}
use Rattle.kept.proofs.Replies.{none_in, some_in, day_rowless, day_behind, day_not, day_by_law}
use Rattle.kept.proofs.asking.list_bs.Goals as goal

pub returns-then-is_empty : goal.returns-then-is_empty
returns-then-is_empty c = λ g. let a = c.args in day_rowless _ _ _ a.rows.now (none_in _ c.if-is_empty.ensures) _ a.out.now

-- what is lent was accepted
pub day_of-requires : goal.day_of-requires
day_of-requires c = (accepted_both (flat c.args.table c.args.rows.now) _ c.in_ok-accept.ensures).0

pub list_day-requires : goal.list_day-requires
list_day-requires c =
    record {
      rows_value = accepted_both (flat c.args.table c.args.rows.now) _ c.in_ok-accept.ensures;
      day_value = sym c.in_ok-number.ensures;
    }

pub returns-in_err-accept : goal.returns-in_err-accept
returns-in_err-accept c = λ g.
    let a = c.args in
    let xs = a.rules.now in
    let e = bs_lent kathmandu (flat a.table a.rows.now) (rules_of xs) (accepted_rules xs) a.bs.year a.bs.month a.bs.day _ c.in_err-accept.ensures in
    day_behind _ _ _ a.rows.now (some_in _ c.if-is_empty.ensures) a.out.now (day_not _ _ _ _ _ a.out.now e (passed_on _ c.from_residual.ensures.1 refl))

pub returns-in_err-number : goal.returns-in_err-number
returns-in_err-number c = λ g.
    let a = c.args in
    let xs = a.rules.now in
    let b = accepted_both (flat a.table a.rows.now) _ c.in_ok-accept.ensures in
    let e = bs_refused kathmandu (flat a.table a.rows.now) (rules_of xs) (accepted_rules xs) a.bs.year a.bs.month a.bs.day b.0 b.1 _ (sym c.in_err-number.ensures) in
    day_behind _ _ _ a.rows.now (some_in _ c.if-is_empty.ensures) a.out.now (day_not _ _ _ _ _ a.out.now e (passed_on _ c.from_residual-in_err-number.ensures.1 refl))

pub returns : goal.returns
returns c = λ g.
    let a = c.args in
    let xs = a.rules.now in
    let b = accepted_both (flat a.table a.rows.now) _ c.in_ok-accept.ensures in
    let e = bs-list kathmandu (flat a.table a.rows.now) (rules_of xs) (accepted_rules xs) a.bs.year a.bs.month a.bs.day b.0 b.1 _ (sym c.in_ok-number.ensures) in
    day_behind _ _ _ a.rows.now (some_in _ c.if-is_empty.ensures) a.out.now (day_by_law a.out.now refl e (c.list_day.ensures g))
