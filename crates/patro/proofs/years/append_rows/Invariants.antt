use Prim.Native.Nat.{◌*◌}
use mathlib.Core.List.{[]}
use lib.ListN.{take}
use Rattle.kept.specs.Held.{Holds}
use Rattle.patro.specs.Inner.{state_of}
use Rattle.patro.proofs.years.append_rows.Given as goal

abbrev pub invariant-loop-i : goal.invariant-loop-i
invariant-loop-i l = Holds l.kept (state_of l.initial.kept.table (take (13 * l.i) l.rows) [])
