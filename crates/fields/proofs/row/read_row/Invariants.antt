use Prim.Native.Nat.{◌-◌, ◌≤◌}
use mathlib.Core.Path.{◌≡◌}
use lib.ListN.{length}
use Rattle.fields.specs.Line.{row_of}
use Rattle.fields.proofs.Rows.{Left}
use Rattle.fields.proofs.row.read_row.Given as goal

abbrev pub invariant-loop-values : goal.invariant-loop-values
invariant-loop-values l = (l.k ≤ 13) × (length l.values ≡ 13) × (Left l.s l.values l.k l.at ≡ row_of l.s)

abbrev pub decreases-loop-values : goal.decreases-loop-values
decreases-loop-values l = 13 - l.k
