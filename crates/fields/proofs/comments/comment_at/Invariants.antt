-- The comment is still to come.
use mathlib.Core.Path.{◌≡◌}
use lib.ListN.{drop}
use Rattle.fields.specs.Line.{comment}
use Rattle.fields.proofs.comments.comment_at.Given as goal

abbrev pub invariant-loop-i : goal.invariant-loop-i
invariant-loop-i l = comment (drop l.i l.s) ≡ comment l.s
