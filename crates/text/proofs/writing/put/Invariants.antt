-- What is left of the text is to be stored at the place reached.
use Prim.Native.Nat.{◌+◌, ◌-◌, ◌≤◌}
use mathlib.Core.Path.{◌≡◌}
use lib.ListN.{length, drop}
use lib.Seq.{sets}
use Rattle.text.proofs.writing.put.Given as goal

abbrev pub invariant-loop-i : goal.invariant-loop-i
invariant-loop-i l =
    (l.next ≡ l.at + l.i)
    × (l.i ≤ length l.initial.out - l.at)
    × (length l.out ≡ length l.initial.out)
    × (sets l.out l.next (drop l.i l.src) ≡ sets l.initial.out l.at l.src)
