-- `notes::lines::put_rule_name` meets its contract. Assumes nothing.
use mathlib.Core.Path.{refl}
use Rattle.output.proofs.Pieces.{one_piece}
use Rattle.notes.proofs.lines.put_rule_name.Goals as goal

pub returns : goal.returns
returns c = one_piece c.room-r.ensures.at_value.0 c.put_festival_name.ensures refl
