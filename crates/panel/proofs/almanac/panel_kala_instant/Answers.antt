use borrow.Author.Tests.{le-leb, lt-leb}
use Rattle.panel.specs.Boundary.{kala_by}
use Rattle.panel.proofs.almanac.panel_kala_instant.Goals as goal

pub returns-then-kala-gt5 : goal.returns-then-kala-gt5
unfolding kala_by
returns-then-kala-gt5 c = rw (lt-leb _ _ c.if-kala-gt5.true, c.number.ensures)

pub returns : goal.returns
unfolding kala_by
returns c = rw (le-leb _ _ c.if-kala-gt5.false, ← c.kala_named-named.ensures, ← c.kala_instant.ensures) c.give_instant.ensures
