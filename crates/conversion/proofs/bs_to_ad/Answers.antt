use Rattle.std.specs.Prelude.{Ok}
use mathlib.Core.Path.{sym, ap, ◌∙◌}
use native.Mathlib.Omega.{arith}
use Rattle.gregorian.specs.Calendar.{date_of}
use Rattle.paper.proofs.Answers.{passed_on, given_refused}
use Rattle.conversion.specs.Calendar.{to_ad}
use Rattle.conversion.proofs.Accepted.{frame_is, frame_refused, refused_table, pass_is, valid_is}
use Rattle.conversion.proofs.Ad.{DateRow, date_row, served, on_numbered}
use Rattle.conversion.proofs.Days.{valid_refused, valid_on, of_date_law}
use Rattle.conversion.proofs.bs_to_ad.Goals as goal
use Rattle.conversion.proofs.bs_to_ad.Goals.{In_ok-date_check}

-- the row of the date
dated : (c : In_ok-date_check) → let a = c.args in DateRow a.table a.rows.now c.in_ok-start.start c.in_ok-p.p a.date.year a.date.month a.date.day
dated c = date_row _ _ _ _ _ _ _ _ (frame_is _ _ _ c.in_ok-start.ensures) c.row_of.ensures c.in_ok-p.ensures c.in_ok-date_check.ensures

pub returns-in_err-start : goal.returns-in_err-start
unfolding to_ad
returns-in_err-start c = passed_on _ c.from_residual.ensures.1 (refused_table _ _ _ _ (frame_refused _ _ _ c.in_err-start.ensures))

pub returns-in_err-p : goal.returns-in_err-p
unfolding to_ad
returns-in_err-p c = passed_on _ c.from_residual-in_err-p.ensures.1 (refused_table _ _ _ _ (given_refused _ _ _ _ c.in_err-p.ensures))

pub returns-in_err-date_check : goal.returns-in_err-date_check
unfolding to_ad
returns-in_err-date_check c =
    let d = c.args.date in
    let good = (pass_is _ _ _ _ _ c.in_ok-p.ensures).0 in
    passed_on _ c.from_residual-in_err-date_check.ensures.1 (valid_refused _ _ _ _ _ _ (c.in_err-date_check.ensures ∙ valid_is _ _ d.year d.month d.day good))

pub overflow_add-start : goal.overflow_add-start
overflow_add-start c = let r = dated (goal.at.overflow_add-start c).In_ok-date_check in omega (arith, r.early)

pub day_in_row-n-requires : goal.day_in_row-n-requires
day_in_row-n-requires c = (dated (goal.at.day_in_row-n-requires c).In_ok-date_check).row

pub date_of-requires : goal.date_of-requires
date_of-requires c =
    let r = dated (goal.at.date_of-requires c).In_ok-date_check in
    rw (c.day_in_row-n.ensures, r.number) (on_numbered _ _ (served _ _ r.valid.month.good) (valid_on _ _ _ _ r.valid))

pub returns : goal.returns
unfolding to_ad
returns c =
    let r = dated (goal.at.returns c).In_ok-date_check in
    ap Ok (c.date_of.ensures ∙ ap date_of (c.day_in_row-n.ensures ∙ r.number)) ∙ sym (of_date_law _ _ _ _ _ r.valid)
