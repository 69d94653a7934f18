-- `patro::pages::draw_ad` meets its contract. Assumes nothing.
use mathlib.Core.Path.{refl}
use Rattle.paper.proofs.Answers.{shown, passed_on}
use Rattle.patro.specs.Pages.{page_asked}
use Rattle.patro.proofs.Drawing.{draws_refused}
use Rattle.patro.proofs.pages.draw_ad.Goals as goal

pub returns : goal.returns
unfolding page_asked
returns c = rw (← shown c.in_ok-bs.was c.ad_to_bs.ensures) c.draw_bs.ensures

pub returns-in_err-bs : goal.returns-in_err-bs
unfolding page_asked
returns-in_err-bs c = rw (passed_on _ c.from_residual.ensures.1 refl) (draws_refused (rw (← shown c.in_err-bs.was c.ad_to_bs.ensures)))
