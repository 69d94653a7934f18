-- `faults::first::first_rule` meets its contract: the rules that are left. Assumes nothing.
use Rattle.std.proofs.Common.{sym, ◌∙◌}
use native.Mathlib.Nat.{sub-zero}
use Rattle.faults.proofs.Turns.{first_over, first-here, first_turn}
use Rattle.faults.proofs.first.first_rule.Goals as goal

pub loop-i-init : goal.loop-i-init
loop-i-init c = rw sub-zero

pub returns-in-Some : goal.returns-in-Some
returns-in-Some c =
    let l = c.loop-i in
    first-here c.args.rules.now _ l.i c.loop-i-test.true c.rule_at-r.ensures (sym c.first_field.ensures ∙ c.in-Some.is) ∙ l.invariant

pub loop-i-preserved : goal.loop-i-preserved
loop-i-preserved c =
    let l = c.loop-i in
    first_turn c.args.rules.now _ l.i c.loop-i-test.true c.rule_at-r.ensures (sym c.first_field.ensures ∙ c.in_default.is) ∙ l.invariant

pub returns : goal.returns
returns c = first_over c.args.rules.now _ c.loop-i.i c.loop-i-test.false ∙ c.loop-i.invariant
