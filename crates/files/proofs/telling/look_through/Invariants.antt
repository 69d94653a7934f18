-- The lines so far lead to the place that stands. The steps left fall.
use Rattle.std.proofs.Common.{◌≡◌, false, length}
use Rattle.std.specs.Prelude.{is_some}
use Rattle.files.specs.Told.{nowhere}
use Rattle.files.specs.Inner.{Looks}
use Rattle.files.proofs.telling.look_through.Given as goal

abbrev pub invariant-loop-input : goal.invariant-loop-input
invariant-loop-input g l = (length l.line ≡ length l.fn.line) × Looks l.sought nowhere l.p × (is_some l.p.found ≡ false)

abbrev pub decreases-loop-input : goal.decreases-loop-input
decreases-loop-input g l = l.input.left
