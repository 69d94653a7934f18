-- `notes::lines::put_beside` meets its contract. Assumes nothing.
use Rattle.notes.specs.Lines.{beside_pieces}
use Rattle.output.proofs.Pieces.{then}
use Rattle.notes.proofs.lines.put_beside.Goals as goal

pub returns : goal.returns
unfolding beside_pieces
returns c = rw (← c.earlier.ensures, ← c.later.ensures) (then c.put_where-a.ensures (then c.put_opening-b.ensures (then c.put_month_rules-c.ensures c.put_month_rules.ensures)))
