-- `wall::day::put_end` meets its contract. Assumes nothing.
use borrow.Author.Tests.{lt-ltb, le-ltb}
use Rattle.text.proofs.Writes.{then}
use Rattle.wall.specs.Pages.{end_text}
use Rattle.wall.proofs.day.put_end.Goals as goal

pub returns-then-end-lt1440 : goal.returns-then-end-lt1440
unfolding end_text
returns-then-end-lt1440 c = rw (lt-ltb c.args.end 1440 c.if-end-lt1440.true) (then c.put-a.ensures (then c.put_clock-b.ensures c.put.ensures))

pub returns : goal.returns
unfolding end_text
returns c = rw (le-ltb c.args.end 1440 c.if-end-lt1440.false) c.put-2.ensures
