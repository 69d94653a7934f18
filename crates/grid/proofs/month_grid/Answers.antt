-- What is lent and today are accepted, and the month is laid. Assumes nothing.
use Rattle.paper.proofs.Answers.{passed_on}
use Rattle.conversion.specs.Flat.{flat}
use Rattle.rules.proofs.Lent.{accepted_both}
use Rattle.festivals.proofs.Numbered.{its_number}
use Rattle.grid.proofs.Grids.{says_refused, says_by}
use Rattle.grid.proofs.Asked.{not_lent, no_today, by_length}
use Rattle.grid.proofs.month_grid.Goals as goal

pub lay_month-requires : goal.lay_month-requires
lay_month-requires c = accepted_both (flat c.args.table c.args.rows.now) _ c.in_ok-accept.ensures

pub returns-in_err-accept : goal.returns-in_err-accept
returns-in_err-accept c =
    let a = c.args in
    let e = not_lent (flat a.table a.rows.now) _ _ _ _ _ _ _ _ _ c.in_err-accept.ensures in
    let r = says_refused _ _ a.cells.now a.festivals.now e in
    record { result_value = passed_on _ c.from_residual.ensures.1 r.answer; cells_after = r.first; festivals_after = r.second }

pub returns-in_err-day_number : goal.returns-in_err-day_number
returns-in_err-day_number c =
    let a = c.args in
    let g = accepted_both (flat a.table a.rows.now) _ c.in_ok-accept.ensures in
    let e = no_today (flat a.table a.rows.now) _ _ _ _ _ _ _ _ g.0 g.1 _ c.in_err-day_number.ensures in
    let r = says_refused _ _ a.cells.now a.festivals.now e in
    record { result_value = passed_on _ c.from_residual-in_err-day_number.ensures.1 r.answer; cells_after = r.first; festivals_after = r.second }

pub returns : goal.returns
returns c =
    let a = c.args in
    let g = accepted_both (flat a.table a.rows.now) _ c.in_ok-accept.ensures in
    let q = its_number _ _ c.in_ok-day_number.ensures in
    let e = by_length (flat a.table a.rows.now) _ _ _ _ _ _ _ _ g.1 q.0 in
    let l = c.lay_month.ensures in
    let r = says_by e (record { answer = l.result_value; first = l.cells_after; second = l.festivals_after }) in
    record { result_value = r.answer; cells_after = r.first; festivals_after = r.second }
