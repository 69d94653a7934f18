-- `patro::laying::draw_wanted` meets its contract. Assumes nothing.
use Rattle.patro.proofs.laying.draw_wanted.Goals as goal

pub returns-in-Page : goal.returns-in-Page
returns-in-Page c = rw c.in-Page.is c.draw.ensures

pub returns-in-Year : goal.returns-in-Year
returns-in-Year c = rw c.in-Year.is c.draw_year.ensures
