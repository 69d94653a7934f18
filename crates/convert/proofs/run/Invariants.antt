-- What is gathered is that of the lines so far. The turns left fall.
use Rattle.std.proofs.Common.{◌≡◌, ◌≤◌, length}
use Rattle.asked.proofs.Runs.{Runs}
use Rattle.convert.specs.Replies.{converting}
use Rattle.convert.proofs.run.Given as goal

abbrev pub invariant-loop-t : goal.invariant-loop-t
invariant-loop-t g l = (length l.line ≡ length l.fn.line) × (l.t.len ≤ length l.line) × Runs converting (length l.fn.line) tt l.fn.out tt l.piece l.line l.out l.t

abbrev pub decreases-loop-t : goal.decreases-loop-t
decreases-loop-t g l = l.t.left
