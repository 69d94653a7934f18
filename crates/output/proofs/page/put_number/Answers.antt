-- `output::page::put_number` meets its contract. Assumes nothing.
use mathlib.Core.Path.{refl}
use Rattle.output.proofs.Pieces.{one_piece}
use Rattle.output.proofs.page.put_number.Goals as goal

pub returns : goal.returns
returns c = one_piece c.room-r.ensures.at_value.0 c.put_decimal.ensures refl
