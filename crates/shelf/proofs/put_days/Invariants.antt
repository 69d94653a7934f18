use Prim.Native.Nat.{◌+◌, ◌-◌, ◌*◌}
use mathlib.Core.Path.{◌≡◌}
use lib.ListN.{length, drop}
use lib.Seq.{sets}
use Rattle.shelf.specs.Numbers.{halves}
use Rattle.shelf.proofs.put_days.Given as goal

abbrev pub invariant-loop-i : goal.invariant-loop-i
invariant-loop-i l = (length l.out ≡ length l.initial.out) × (sets l.out (l.at + l.i * 2) (halves (drop l.i l.entries.days)) ≡ sets l.initial.out l.at (halves l.entries.days))
