-- `kept::with_rules` meets its contract. Assumes nothing.
use Prim.Native.Nat.{ℕ}
use mathlib.Core.Path.{refl, sym, ◌∙◌}
use native.Mathlib.Omega.{arith}
use lib.ListN.{length-replicate}
use Rattle.rules.proofs.Few.{few_rules}
use Rattle.kept.specs.Held.{held}
use Rattle.kept.specs.Inner.{taking}
use Rattle.kept.proofs.Records.{holds_rules}
use Rattle.kept.proofs.Goods.{good_rules}
use Rattle.kept.proofs.with_rules.Goals as goal

pub returns-then-not-accepts_rules : goal.returns-then-not-accepts_rules
unfolding taking
returns-then-not-accepts_rules c = λ w. rw (sym c.accepts_rules.ensures ∙ c.if-not-accepts_rules.true) refl

-- past the test the list is accepted
pub put_at-requires : goal.put_at-requires
put_at-requires c = omega (arith, few_rules c.args.list.now (sym c.accepts_rules.ensures ∙ c.if-not-accepts_rules.false), length-replicate {A = ℕ} 2560 0)

pub returns : goal.returns
unfolding taking
returns c = λ w.
    let k = c.args.state.now in
    let list = c.args.list.now in
    let g = sym c.accepts_rules.ensures ∙ c.if-not-accepts_rules.false in
    rw g (holds_rules k w list _ _ (good_rules (held k) w.good list g) (few_rules list g) c.put_at.ensures c.no_years.ensures)
