use mathlib.Core.Path.{sym, ◌∙◌}
use native.Mathlib.Omega.{arith}
use Rattle.paper.proofs.Answers.{refused_answered, answered_same}
use Rattle.conversion.proofs.Accepted.{facts, starts, years_in_law, year_found, placed_by}
use Rattle.conversion.proofs.place.Goals as goal

pub returns-in_err-start : goal.returns-in_err-start
returns-in_err-start c = absurd (refused_answered (sym c.in_err-start.ensures) (starts _ _ (facts _ _ c.requires).frame))

pub find-p-requires : goal.find-p-requires
find-p-requires c = years_in_law _ _ (facts _ _ c.requires).frame.few (omega (arith, c.year_count.ensures))

pub place_in-requires : goal.place_in-requires
place_in-requires c =
    let f = facts _ _ c.requires in
    let p = rw (c.year_count.ensures, c.saturating_sub.ensures) at c.find-p.ensures in
    placed_by _ _ _ _ _ _ f (answered_same (c.in_ok-start.ensures ∙ starts _ _ f.frame)) (year_found _ _ f _ _ _ p)
