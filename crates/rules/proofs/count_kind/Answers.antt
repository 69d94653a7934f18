-- `rules::count_kind` meets its contract. The invariant: what was counted and what is left to count make the same sum. Assumes nothing.
use mathlib.Core.Path.{sym, ◌∙◌}
use Prim.Native.Nat.{◌/◌}
use native.Mathlib.Nat.{sub-zero, zero-add, add-zero}
use native.Mathlib.Omega.{arith}
use lib.ListN.{length}
use Rattle.rules.proofs.Walk.{left_none, count_none, count_turn, count-skip}
use Rattle.rules.proofs.count_kind.Goals as goal
use Rattle.rules.proofs.count_kind.Goals.{then-r-k, else-r-k}

pub loop-i-init : goal.loop-i-init
loop-i-init c = (omega arith, rw (sub-zero, zero-add))

pub loop-i-preserved : goal.loop-i-preserved
loop-i-preserved c =
    let l = c.loop-i in
    let a = c.args in
    elim c.if-r-k.branch [
      | then-r-k w ↦ (omega arith, rw w.count-is (count_turn a.rules.now l.i _ c.loop-i-test.true _ c.rule_at-r.ensures a.k l.count _ l.invariant.1 w.if-r-k.true))
      | else-r-k w ↦ (omega arith, rw w.count-is (count-skip a.rules.now l.i _ c.loop-i-test.true _ c.rule_at-r.ensures a.k l.count _ l.invariant.1 w.if-r-k.false))
    ]

pub returns : goal.returns
returns c =
    let l = c.loop-i in
    let a = c.args in
    let xs = a.rules.now in
    sym (add-zero l.count) ∙ rw (left_none xs l.i (length xs / 8) c.loop-i-test.false, count_none) at l.invariant.1
