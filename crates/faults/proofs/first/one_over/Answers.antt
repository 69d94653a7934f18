-- `faults::first::one_over` meets its contract: the rules that are left, and how many more are allowed. Assumes nothing.
use Rattle.std.proofs.Common.{◌∙◌}
use native.Mathlib.Nat.{sub-zero}
use Rattle.faults.proofs.Turns.{over_over, over_skip, over-here, over-turn}
use Rattle.faults.proofs.first.one_over.Goals as goal

pub loop-i-init : goal.loop-i-init
loop-i-init c = rw sub-zero

pub loop-i-preserved-then-rule_at-kind : goal.loop-i-preserved-then-rule_at-kind
loop-i-preserved-then-rule_at-kind c =
    let l = c.loop-i in
    over_skip c.args.rules.now _ l.i c.loop-i-test.true c.rule_at.ensures c.args.kind l.left c.if-rule_at-kind.true ∙ l.invariant

pub returns-then-left-eq0 : goal.returns-then-left-eq0
returns-then-left-eq0 c =
    let l = c.loop-i in
    over-here c.args.rules.now _ l.i c.loop-i-test.true c.rule_at.ensures c.args.kind l.left c.if-rule_at-kind.false c.if-left-eq0.true ∙ l.invariant

pub loop-i-preserved : goal.loop-i-preserved
loop-i-preserved c =
    let l = c.loop-i in
    over-turn c.args.rules.now _ l.i c.loop-i-test.true c.rule_at.ensures c.args.kind l.left c.if-rule_at-kind.false c.if-left-eq0.false ∙ l.invariant

pub returns : goal.returns
returns c = over_over c.args.rules.now _ c.args.kind c.loop-i.left c.loop-i.i c.loop-i-test.false ∙ c.loop-i.invariant
