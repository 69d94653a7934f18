-- `files::telling::put_place` meets its contract. Assumes nothing.
use Rattle.text.proofs.Writes.{then}
use Rattle.files.specs.Told.{place_text}
use Rattle.files.proofs.telling.put_place.Goals as goal

pub returns-then-is_some : goal.returns-then-is_some
unfolding place_text
returns-then-is_some c = rw (← c.is_some.ensures, c.if-is_some.true) (then c.put-a.ensures (then c.put-b.ensures c.put_decimal.ensures))

pub returns : goal.returns
unfolding place_text
returns c = rw (← c.is_some.ensures, c.if-is_some.false) c.put-a.ensures
