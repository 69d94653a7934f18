use Prim.Native.Nat.{◌-◌, ◌≤◌}
use mathlib.Core.Path.{◌≡◌}
use lib.ListN.{length}
use Rattle.asked.proofs.HeldOctets.{Left}
use Rattle.asked.proofs.bytes.read_octets.Given as goal

abbrev pub invariant-loop-at : goal.invariant-loop-at
invariant-loop-at l = (l.count ≤ 64) × (length l.bytes ≡ 64) × (Left l.s l.at l.count l.bytes ≡ Left l.s l.initial.at l.initial.count l.initial.bytes)

abbrev pub decreases-loop-at : goal.decreases-loop-at
decreases-loop-at l = 64 - l.count
