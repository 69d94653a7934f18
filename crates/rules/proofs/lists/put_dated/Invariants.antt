use mathlib.Core.Path.{◌≡◌}
use Prim.Native.Nat.{◌+◌, ◌-◌, ◌≤◌}
use lib.ListN.{length}
use Rattle.rules.specs.Rules.{rules_from}
use Rattle.rules.specs.Festivals.{picked}
use Rattle.rules.specs.Resolved.{falls}
use Rattle.rules.specs.Inner.{store_pairs}
use Rattle.rules.proofs.lists.put_dated.Given as goal

abbrev pub invariant-loop-i : goal.invariant-loop-i
invariant-loop-i l =
    (length l.buf ≡ length l.initial.buf)
    × (l.t.n ≤ l.initial.t.n + l.i)
    × (store_pairs (l.buf, l.t) (picked (falls l.k l.day) (rules_from l.rules l.i (l.n - l.i))) ≡ store_pairs (l.initial.buf, l.initial.t) (picked (falls l.k l.day) (rules_from l.rules 0 l.n)))
