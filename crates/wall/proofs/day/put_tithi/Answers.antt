-- `wall::day::put_tithi` meets its contract. Assumes nothing.
use borrow.Author.Tests.{lt-ltb, le-ltb}
use Rattle.text.proofs.Writes.{then}
use Rattle.wall.specs.Pages.{tithi_text}
use Rattle.wall.proofs.day.put_tithi.Goals as goal

pub returns-then-tithi-lt16 : goal.returns-then-tithi-lt16
unfolding tithi_text
returns-then-tithi-lt16 c = rw (lt-ltb c.args.tithi 16 c.if-tithi-lt16.true) (then c.put-a.ensures (then c.put_decimal-b.ensures (then c.put-c.ensures c.put_decimal.ensures)))

pub returns : goal.returns
unfolding tithi_text
returns c = rw (le-ltb c.args.tithi 16 c.if-tithi-lt16.false) (then c.put-a.ensures (then c.put_decimal-b.ensures (then c.put-c-2.ensures c.put_decimal-2.ensures)))
