-- `asked::words::form_with` meets its contract. Assumes nothing.
use borrow.Author.Tests.{lt-ltb, le-ltb, eq-eqb, ne_eqb}
use Rattle.asked.specs.Line.{with_kind}
use Rattle.asked.proofs.words.form_with.Goals as goal

pub returns-then-form-lt1000000000000000 : goal.returns-then-form-lt1000000000000000
unfolding with_kind
returns-then-form-lt1000000000000000 c = rw (lt-ltb _ _ c.if-form-lt1000000000000000.true)

pub returns-then-kind-eq1 : goal.returns-then-kind-eq1
unfolding with_kind
returns-then-kind-eq1 c = rw (le-ltb _ _ c.if-form-lt1000000000000000.false, eq-eqb _ _ c.if-kind-eq1.true)

pub returns : goal.returns
unfolding with_kind
returns c = rw (le-ltb _ _ c.if-form-lt1000000000000000.false, ne_eqb _ _ c.if-kind-eq1.false)
