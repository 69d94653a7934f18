-- `patro::pages::draw_part` meets its contract. Assumes nothing.
use mathlib.Core.Path.{refl}
use Rattle.patro.specs.Pages.{part_page}
use Rattle.patro.proofs.Drawing.{draws_refused, draws_page}
use Rattle.patro.proofs.Parts.{day_zero, day_past, day_in}
use Rattle.patro.proofs.pages.draw_part.Goals as goal

pub returns-then-day-eq0 : goal.returns-then-day-eq0
returns-then-day-eq0 c = let a = c.args in rw c.in-Day.is (draws_refused (day_zero a.names.now a.year a.month _ a.m a.cells.now a.festivals.now c.if-day-eq0.true))

pub returns-then-m-day : goal.returns-then-m-day
returns-then-m-day c = let a = c.args in rw c.in-Day.is (draws_refused (day_past a.names.now a.year a.month _ a.m a.cells.now a.festivals.now c.if-m-day.true))

pub returns-in-Whole : goal.returns-in-Whole
unfolding part_page
returns-in-Whole c = rw c.in-Whole.is (draws_page refl (rw c.page_of-title.ensures at c.put_month_page.ensures))

pub returns-else-m-day : goal.returns-else-m-day
returns-else-m-day c = let a = c.args in rw c.in-Day.is (draws_page (day_in a.names.now a.year a.month _ a.m a.cells.now a.festivals.now c.if-day-eq0.false c.if-m-day.false) (rw c.cell_of-cell.ensures at c.put_day_page.ensures))
