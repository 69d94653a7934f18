-- The lines so far made what stands. The steps left fall.
use Rattle.std.proofs.Common.{◌≡◌, true, length}
use Rattle.files.specs.File.{made, well}
use Rattle.files.proofs.Made.{Stood}
use Rattle.files.proofs.reading.read_lines.Given as goal

abbrev pub invariant-loop-input : goal.invariant-loop-input
invariant-loop-input g l = (length l.line ≡ length l.fn.line) × Stood (length l.fn.line) (made l.fn.r l.fn.rows) (made l.q l.rows) l.piece l.input × (well l.q.fault ≡ true)

abbrev pub decreases-loop-input : goal.decreases-loop-input
decreases-loop-input g l = l.input.left
