-- `doubt::put_asked_page` meets its contract. Assumes nothing.
use Rattle.doubt.proofs.Asked.{page_is}
use Rattle.doubt.proofs.put_asked_page.Goals as goal

pub returns : goal.returns
returns c = page_is _ _ _ _ _ _ c.begin.ensures c.put_years-p.ensures c.put_asked_years-q.ensures c.put_counts.ensures
