-- The number so far, and what is left of the text.
use Prim.Native.Nat.{◌+◌}
use mathlib.Core.Path.{◌≡◌}
use lib.ListN.{drop}
use Rattle.text.specs.Digits as Digits
use Rattle.text.proofs.reading.read_all.Given as goal

abbrev pub invariant-loop-i : goal.invariant-loop-i
invariant-loop-i l = Digits.scan l.limit l.v (drop (l.from + l.i) l.s) ≡ Digits.scan l.limit 0 (drop l.from l.s)
