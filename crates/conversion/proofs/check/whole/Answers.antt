use Rattle.paper.proofs.Answers.{passed_on}
use Rattle.conversion.proofs.Accepted.{frame_refused, refused_table}
use Rattle.conversion.proofs.check.whole.Goals as goal

pub returns-in_err-start : goal.returns-in_err-start
returns-in_err-start c = passed_on _ c.from_residual.ensures.1 (refused_table _ _ _ _ (frame_refused _ _ _ c.in_err-start.ensures))
