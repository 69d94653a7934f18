-- `output::page::put_text` meets its contract. Assumes nothing.
use mathlib.Core.Path.{refl}
use Rattle.output.proofs.Pieces.{one_piece}
use Rattle.output.proofs.page.put_text.Goals as goal

pub returns : goal.returns
returns c = one_piece c.room-r.ensures.at_value.0 c.put.ensures refl
