-- `naming::finding::has_name` meets its contract. Assumes nothing.
use mathlib.Core.Path.{◌∙◌}
use Rattle.naming.proofs.Searches.{has_found}
use Rattle.naming.proofs.finding.has_name.Goals as goal

pub returns : goal.returns
returns c = c.is_some.ensures ∙ has_found c.find.result c.find.ensures
