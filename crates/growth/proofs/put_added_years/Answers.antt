-- `growth::put_added_years` meets its contract. Assumes nothing.
use Rattle.growth.proofs.Pages.{found_is, added_none, added-some}
use Rattle.growth.proofs.put_added_years.Goals as goal

pub returns-then-last-year : goal.returns-then-last-year
returns-then-last-year c = added_none _ _ _ _ _ _ c.args.o c.if-last-year.true c.put_text.ensures

pub returns : goal.returns
returns c = added-some _ _ _ _ _ _ c.args.o c.if-last-year.false c.put_gained_years-a.ensures (found_is _ _ _ _ _ _ c.put_gained_years-a.result c.page_with.ensures c.put_years-p.ensures c.put_counts.ensures)
