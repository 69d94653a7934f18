-- The steps fall, and the pieces so far make the line that is held.
use Rattle.std.proofs.Common.{◌≡◌, ◌≤◌, length, drop}
use Rattle.lines.specs.Lines.{front}
use Rattle.lines.proofs.Pieces.{Reads}
use Rattle.lines.proofs.read_on.Given as goal

abbrev pub invariant-loop-left : goal.invariant-loop-left
invariant-loop-left g l = (length l.line ≡ length l.fn.line) × (l.left ≤ l.fn.input.left) × Reads (length l.fn.line) (drop l.fn.input.from (front l.fn.piece l.fn.input.to)) l.line l.held (drop l.from (front l.piece l.to))

abbrev pub decreases-loop-left : goal.decreases-loop-left
decreases-loop-left g l = l.left
