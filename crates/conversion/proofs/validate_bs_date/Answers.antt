use mathlib.Core.Path.{◌∙◌}
use Rattle.paper.proofs.Answers.{passed_on, given_told, given_refused}
use Rattle.conversion.specs.Calendar.{valid_bs}
use Rattle.conversion.proofs.Accepted.{refused_table, valid_is}
use Rattle.conversion.proofs.validate_bs_date.Goals as goal

pub returns-in_err-whole : goal.returns-in_err-whole
unfolding valid_bs
returns-in_err-whole c = passed_on _ c.from_residual.ensures.1 (refused_table _ _ _ _ (given_refused _ _ _ _ c.in_err-whole.ensures))

pub returns : goal.returns
returns c =
    let d = c.args.date in
    c.date_check.ensures ∙ valid_is _ _ d.year d.month d.day (given_told _ _ _ _ c.in_ok-whole.ensures).0
