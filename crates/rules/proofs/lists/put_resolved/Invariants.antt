use mathlib.Core.Path.{◌≡◌}
use Prim.Native.Nat.{◌+◌, ◌-◌, ◌≤◌}
use lib.ListN.{length}
use Rattle.rules.specs.Rules.{rules_from, count_kind}
use Rattle.rules.specs.Resolved.{used}
use Rattle.rules.specs.Inner.{store_pairs}
use Rattle.rules.proofs.lists.put_resolved.Given as goal

abbrev pub invariant-loop-i : goal.invariant-loop-i
invariant-loop-i l =
    let rs = rules_from l.rules 0 l.count in
    (length l.buf ≡ length l.initial.buf)
    × (l.t.n ≤ l.initial.t.n + l.i)
    × (l.j + count_kind 3 (rules_from l.rules l.i (l.count - l.i)) ≡ count_kind 3 rs)
    × (store_pairs (l.buf, l.t) (used rs l.year l.entries.days l.n l.j (rules_from l.rules l.i (l.count - l.i))) ≡ store_pairs (l.initial.buf, l.initial.t) (used rs l.year l.entries.days l.n 0 rs))
