use Prim.Native.Nat.{◌-◌, ◌≤◌}
use mathlib.Core.Path.{◌≡◌}
use lib.ListN.{length}
use Rattle.asked.specs.Line.{words_of}
use Rattle.asked.proofs.Splits.{Left}
use Rattle.asked.proofs.words.split_all.Given as goal

abbrev pub invariant-loop-at : goal.invariant-loop-at
invariant-loop-at l = (l.k ≤ 4096) × (length l.values ≡ 16) × (Left l.s l.tag l.form l.values l.k l.at ≡ words_of l.s)

abbrev pub decreases-loop-at : goal.decreases-loop-at
decreases-loop-at l = 4096 - l.k
