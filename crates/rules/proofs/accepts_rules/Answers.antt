-- `rules::accepts_rules` meets its contract. Assumes nothing.
use borrow.Author.Tests.{eq-eqb, ne_eqb}
use Rattle.rules.specs.Rules.{accepted_rules}
use Rattle.rules.proofs.accepts_rules.Goals as goal

pub returns-then-rules-ne0 : goal.returns-then-rules-ne0
unfolding accepted_rules
returns-then-rules-ne0 c = rw (ne_eqb _ _ c.if-rules-ne0.true)

pub returns : goal.returns
unfolding accepted_rules
returns c =
    rw (eq-eqb _ _ c.if-rules-ne0.false, ← c.all_good.ensures, ← c.count_kind.ensures, ← c.count_kind-2.ensures, ← c.count_kind-3.ensures, ← c.count_kind-4.ensures)
