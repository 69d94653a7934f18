use Rattle.paper.proofs.Answers.{passed_on, given_refused}
use Rattle.conversion.specs.Calendar.{month_len}
use Rattle.conversion.proofs.Accepted.{refused_table}
use Rattle.conversion.proofs.bs_month_len.Goals as goal

pub returns-in_err-whole : goal.returns-in_err-whole
unfolding month_len
returns-in_err-whole c = passed_on _ c.from_residual.ensures.1 (refused_table _ _ _ _ (given_refused _ _ _ _ c.in_err-whole.ensures))
