-- `clerk::count_kind` meets its contract. The invariant: what was counted and what is left to count make the same sum. Assumes nothing.
use Rattle.std.proofs.Common.{sym, ◌∙◌, ◌/◌, length, add-zero, arith}
use native.Mathlib.Nat.{sub-zero, zero-add}
use Rattle.rules.proofs.Walk.{left_none, count_none, count_turn, count-skip}
use Rattle.clerk.proofs.count_kind.Goals as goal
use Rattle.clerk.proofs.count_kind.Goals.{then-rule_at-k, else-rule_at-k}

pub loop-i-init : goal.loop-i-init
loop-i-init c = (omega arith, rw (sub-zero, zero-add))

pub loop-i-preserved : goal.loop-i-preserved
loop-i-preserved c =
    let l = c.loop-i in
    let a = c.args in
    elim c.if-rule_at-k.branch [
      | then-rule_at-k w ↦
          rw w.count-is (omega arith, count_turn a.rules.now l.i _ c.loop-i-test.true _ c.rule_at.ensures a.k l.count _ l.invariant.1 w.if-rule_at-k.true)
      | else-rule_at-k w ↦
          rw w.count-is (omega arith, count-skip a.rules.now l.i _ c.loop-i-test.true _ c.rule_at.ensures a.k l.count _ l.invariant.1 w.if-rule_at-k.false)
    ]

pub returns : goal.returns
returns c =
    let l = c.loop-i in
    let xs = c.args.rules.now in
    sym (add-zero l.count) ∙ rw (left_none xs l.i (length xs / 8) c.loop-i-test.false, count_none) at l.invariant.1
