-- `notes::lines::put_moment` meets its contract. Assumes nothing.
use Rattle.notes.specs.Lines.{moment_pieces}
use Rattle.output.proofs.Pieces.{then}
use Rattle.notes.proofs.lines.put_moment.Goals as goal

pub returns : goal.returns
unfolding moment_pieces
returns c = rw (← c.clock_of.ensures) (then c.put_text-a.ensures (then c.put_date-b.ensures (then c.put_text-c.ensures c.put_clock.ensures)))
