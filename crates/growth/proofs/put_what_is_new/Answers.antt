-- `growth::put_what_is_new` meets its contract. Assumes nothing.
use Rattle.growth.specs.Growth.{new_pieces}
use Rattle.output.proofs.Pieces.{then}
use Rattle.growth.proofs.put_what_is_new.Goals as goal

pub returns : goal.returns
unfolding new_pieces
returns c = then c.put_text-a.ensures c.put_text.ensures
