-- `growth::put_growth` meets its contract. Assumes nothing.
use Rattle.growth.proofs.Pages.{page_is}
use Rattle.growth.proofs.put_growth.Goals as goal

pub returns : goal.returns
returns c = page_is _ _ _ c.last_year-year.result c.last_year-last.result _ c.args.o _ c.last_year-year.ensures c.last_year-last.ensures c.put_both_tables-a.ensures c.put_added_years.ensures
