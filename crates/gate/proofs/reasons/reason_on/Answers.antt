-- What is lent is accepted, the date has a number, and its day has a reason or not. Assumes nothing.
use mathlib.Core.Path.{sym}
use Rattle.paper.proofs.Answers.{shown, passed_on}
use Rattle.conversion.specs.Flat.{flat}
use Rattle.rules.proofs.Lent.{accepted_both}
use Rattle.festivals.proofs.Numbered.{to_numbered}
use Rattle.gate.proofs.Why.{not_lent, no_day_law, told-on}
use Rattle.gate.proofs.reasons.reason_on.Goals as goal

pub day_of-requires : goal.day_of-requires
day_of-requires c = let a = c.args in (accepted_both (flat a.table a.rows.now) _ (shown c.in_ok-accept.was c.accept.ensures)).0

pub reason_of-requires : goal.reason_of-requires
reason_of-requires c =
    let a = c.args in
    let g = accepted_both (flat a.table a.rows.now) _ (shown c.in_ok-accept.was c.accept.ensures) in
    (g.0, g.1, to_numbered a.table a.rows.now a.year a.month a.day _ g.0 (sym (shown c.in_ok-number.was c.day_of.ensures)))

pub returns-in_err-accept : goal.returns-in_err-accept
returns-in_err-accept c =
    let a = c.args in
    passed_on _ c.from_residual.ensures.1
    (not_lent (flat a.table a.rows.now) a.rules.now a.year a.month a.day _ (shown c.in_err-accept.was c.accept.ensures))

pub returns-in_err-number : goal.returns-in_err-number
returns-in_err-number c =
    let a = c.args in
    let g = accepted_both (flat a.table a.rows.now) _ (shown c.in_ok-accept.was c.accept.ensures) in
    passed_on _ c.from_residual-in_err-number.ensures.1
    (no_day_law (flat a.table a.rows.now) a.rules.now a.year a.month a.day g.0 g.1 _ (sym (shown c.in_err-number.was c.day_of.ensures)))

pub returns : goal.returns
returns c =
    let a = c.args in
    let g = accepted_both (flat a.table a.rows.now) _ (shown c.in_ok-accept.was c.accept.ensures) in
    told-on (flat a.table a.rows.now) a.rules.now a.year a.month a.day g.0 g.1 _ _ (sym (shown c.in_ok-number.was c.day_of.ensures)) c.reason_of.ensures
