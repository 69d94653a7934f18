use Rattle.paper.proofs.Answers.{refused_answered, answered_same}
use mathlib.Core.Path.{sym, ◌∙◌}
use Rattle.conversion.proofs.Accepted.{facts, starts}
use Rattle.conversion.proofs.day_of.Goals as goal

pub returns-in_err-start : goal.returns-in_err-start
returns-in_err-start c = absurd (refused_answered (sym c.in_err-start.ensures) (starts _ _ (facts _ _ c.requires).frame))

pub number_of-requires : goal.number_of-requires
number_of-requires c =
    let f = (facts _ _ c.requires).frame in
    record { frame = f; first = answered_same (c.in_ok-start.ensures ∙ starts _ _ f) }
