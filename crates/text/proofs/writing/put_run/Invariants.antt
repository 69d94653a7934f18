-- What is left of the number is to be written before the digits that stand.
use Prim.Native.Nat.{◌-◌}
use mathlib.Core.Path.{◌≡◌}
use lib.Seq.{sets}
use Rattle.text.specs.Digits.{run}
use Rattle.text.proofs.writing.put_run.Given as goal

abbrev pub invariant-loop-i : goal.invariant-loop-i
invariant-loop-i l = sets l.out l.at (run l.base (l.k - l.i) l.rest) ≡ sets l.initial.out l.at (run l.base l.k l.n)
