-- What is lent, kept and gathered is that of the lines so far. The turns left fall.
use Rattle.std.proofs.Common.{◌≡◌, length}
use Rattle.asked.proofs.Runs.{Runs}
use Rattle.lending.specs.Lending.{loan_of}
use Rattle.desk.specs.Keeping.{Sound}
use Rattle.desk.specs.Runs.{desk_of, opened, answering}
use Rattle.desk.proofs.run.Given as goal

abbrev pub invariant-loop-t : goal.invariant-loop-t
invariant-loop-t g l = (length l.line ≡ length l.fn.line) × Sound l.kept
    × Runs answering (length l.fn.line) (opened (loan_of l.fn.first l.fn.rows l.fn.rules l.fn.text)) l.fn.out (desk_of (loan_of l.lent l.rows l.rules l.text) l.kept) l.piece l.line l.out l.t

abbrev pub decreases-loop-t : goal.decreases-loop-t
decreases-loop-t g l = l.t.left
