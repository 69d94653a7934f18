-- What is left of the text decides.
use mathlib.Core.Path.{◌≡◌}
use lib.ListN.{drop}
use Rattle.utf8.specs.Utf8.{comes, utf8}
use Rattle.utf8.proofs.sequences.is_utf8.Given as goal

abbrev pub invariant-loop-b : goal.invariant-loop-b
invariant-loop-b l = comes l.left l.least l.most (drop l.b-index l.s) ≡ utf8 l.s
