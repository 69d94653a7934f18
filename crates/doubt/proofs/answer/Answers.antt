-- `doubt::answer` is proved. Assumes nothing.
use mathlib.Core.Path.{sym, ◌∙◌}
use Rattle.doubt.proofs.answer.Goals as goal

pub answer_over-requires : goal.answer_over-requires
answer_over-requires c = sym c.accepts.ensures ∙ c.if-accepts.true
