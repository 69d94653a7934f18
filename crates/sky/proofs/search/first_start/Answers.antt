use mathlib.Core.Path.{sym, ◌∙◌}
use Rattle.sky.specs.Tithi.{elongation_of}
use Rattle.sky.specs.Search.{offset}
use Rattle.sky.proofs.Steps.{first_is}
use Rattle.sky.proofs.search.first_start.Goals as goal

pub returns : goal.returns
returns c =
    let a = c.args in
    let e = first_is (offset elongation_of c.target_of.result) a.to.0 a.from.0 c.first_next.ensures in
    rw (← c.target_of.ensures) (sym c.in_ok-at.was ∙ e)

pub returns-in_err-at : goal.returns-in_err-at
returns-in_err-at c =
    let a = c.args in
    let e = first_is (offset elongation_of c.target_of.result) a.to.0 a.from.0 c.first_next.ensures in
    rw (c.from_residual.ensures, ← c.target_of.ensures) (sym c.in_err-at.was ∙ e)
