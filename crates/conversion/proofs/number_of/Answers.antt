use Prim.Native.Nat.{◌-◌}
use mathlib.Core.Path.{sym, ◌∙◌}
use native.Mathlib.Omega.{arith}
use Rattle.paper.proofs.Answers.{passed_on}
use Rattle.conversion.specs.Calendar.{to_day}
use Rattle.conversion.proofs.Accepted.{facts, first_small, years_in_law, years_sum, untested_is, valid_is}
use Rattle.conversion.proofs.Days.{valid_told, valid_refused, converts}
use Rattle.conversion.proofs.number_of.Goals as goal

pub returns-in_err-date_check : goal.returns-in_err-date_check
unfolding to_day
returns-in_err-date_check c g =
    let d = c.args.date in
    passed_on _ c.from_residual.ensures.1 (valid_refused _ _ _ _ _ _ (c.in_err-date_check.ensures ∙ valid_is _ _ d.year d.month d.day g))

pub overflow_sub-i : goal.overflow_sub-i
overflow_sub-i c = (valid_told _ _ _ _ c.in_ok-date_check.ensures).month.year_from

pub span-requires : goal.span-requires
span-requires c =
    let k = (valid_told _ _ _ _ c.in_ok-date_check.ensures).month in
    years_in_law c.args.rows.now (c.args.date.year - c.args.table.first_year) c.requires.frame.few (omega arith)

pub overflow_add-first : goal.overflow_add-first
overflow_add-first c =
    let k = (valid_told _ _ _ _ c.in_ok-date_check.ensures).month in
    omega (arith, c.requires.first, first_small c.args.table _ c.requires.frame, c.span.ensures.most)

pub day_in_row-requires : goal.day_in_row-requires
day_in_row-requires c =
    let k = valid_told _ _ _ _ c.in_ok-date_check.ensures in
    record {
      row = omega (arith, k.month);
      early = omega (arith, c.requires.first, first_small c.args.table _ c.requires.frame, k.month, c.span.ensures.most);
      month_from = k.month.month_from;
      month_to = k.month.month_to;
      day_from = k.day_from;
    }

pub returns : goal.returns
returns c g =
    let d = c.args.date in
    let k = valid_told _ _ _ _ c.in_ok-date_check.ensures in
    let years = c.span.ensures.whole ∙ years_sum _ _ (facts _ _ g) (d.year - c.args.table.first_year) (omega (arith, k.month)) in
    sym (rw (← untested_is c.args.table c.args.rows.now g) (rw (converts _ _ _ _ k, c.day_in_row.ensures, years, c.requires.first)))
