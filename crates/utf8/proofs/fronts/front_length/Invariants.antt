-- What is left of the front follows the place reached.
use Prim.Native.Nat.{◌+◌}
use mathlib.Core.Path.{◌≡◌}
use lib.ListN.{length, drop}
use Rattle.utf8.specs.Characters.{front}
use Rattle.utf8.proofs.fronts.front_length.Given as goal

abbrev pub invariant-loop-i : goal.invariant-loop-i
invariant-loop-i l = l.i + length (front l.left (drop l.i l.s)) ≡ length (front l.most l.s)
