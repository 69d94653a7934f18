use Rattle.sky.proofs.Remainders.{small_is, not_finite, none_of_zero}
use Rattle.paper.specs.Floats.{whole}
use lib.IntN.{pos}
use mathlib.Core.Path.{sym, ◌∙◌}
use Rattle.sky.proofs.division.size_remainder.Goals as goal
use Rattle.sky.proofs.division.size_remainder.Goals.{then-n-gt0+else-is_finite, else-n-gt0}

pub returns-then-size-n : goal.returns-then-size-n
returns-then-size-n c = small_is c.args.size c.args.n c.well_formed.0.1 c.ranges.n.fits c.requires c.if-size-n.true

pub returns : goal.returns
returns c =
    elim c.if-n-gt0.branch [
      | then-n-gt0+else-is_finite w ↦ not_finite c.args.size (whole (pos c.args.n)) (sym w.is_finite.ensures.value ∙ w.if-is_finite.false)
      | else-n-gt0 w ↦ none_of_zero c.args.size c.args.n w.if-n-gt0.false
    ]
