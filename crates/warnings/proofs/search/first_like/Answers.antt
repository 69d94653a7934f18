-- `warnings::search::first_like` meets its contract: the rules that are left. Assumes nothing.
use Rattle.std.proofs.Common.{◌∙◌}
use native.Mathlib.Nat.{sub-zero}
use Rattle.warnings.proofs.Turns.{like_over, like-here, like-turn}
use Rattle.warnings.proofs.search.first_like.Goals as goal

pub loop-i-init : goal.loop-i-init
loop-i-init c = rw sub-zero

pub returns-then-stands : goal.returns-then-stands
returns-then-stands c =
    let l = c.loop-i in
    like-here c.args.rules.now _ c.args.how c.args.r l.i c.loop-i-test.true c.rule_at.ensures c.stands.ensures c.if-stands.true ∙ l.invariant

pub loop-i-preserved : goal.loop-i-preserved
loop-i-preserved c =
    let l = c.loop-i in
    like-turn c.args.rules.now _ c.args.how c.args.r l.i c.loop-i-test.true c.rule_at.ensures c.stands.ensures c.if-stands.false ∙ l.invariant

pub returns : goal.returns
returns c = like_over c.args.rules.now _ c.args.how c.args.r c.loop-i.i c.loop-i-test.false ∙ c.loop-i.invariant
