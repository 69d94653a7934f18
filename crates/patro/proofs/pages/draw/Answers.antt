-- `patro::pages::draw` meets its contract. Assumes nothing.
use Rattle.patro.specs.Pages.{page_asked}
use Rattle.patro.proofs.pages.draw.Goals as goal

pub returns-in-Month : goal.returns-in-Month
unfolding page_asked
returns-in-Month c = rw c.in-Month.is c.draw_bs.ensures

pub returns-in-Day : goal.returns-in-Day
unfolding page_asked
returns-in-Day c = rw c.in-Day.is c.draw_bs-in-Day.ensures

pub returns-in-Date : goal.returns-in-Date
returns-in-Date c = rw c.in-Date.is c.draw_ad.ensures
