-- `wall::day::put_holiday` meets its contract. Assumes nothing.
use borrow.Author.Tests.{eq-eqb, ne_eqb}
use Rattle.wall.specs.Pages.{holiday_text}
use Rattle.wall.proofs.day.put_holiday.Goals as goal

pub returns-then-number-eq6 : goal.returns-then-number-eq6
unfolding holiday_text
returns-then-number-eq6 c = rw (← c.number.ensures, eq-eqb c.number.result 6 c.if-number-eq6.true, ← c.number-holiday.ensures) c.put_mark.ensures

pub returns : goal.returns
unfolding holiday_text
returns c = rw (← c.number.ensures, ne_eqb c.number.result 6 c.if-number-eq6.false, ← c.number-holiday.ensures) c.put_mark-2.ensures
