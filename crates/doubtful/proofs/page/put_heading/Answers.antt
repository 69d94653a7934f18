-- `doubtful::page::put_heading` meets its contract. Assumes nothing.
use mathlib.Core.Path.{ap}
use Rattle.doubtful.specs.Tallies.{heading_pieces, tally_of}
use Rattle.doubtful.specs.declared.page.Page.{Page}
use Rattle.output.proofs.Pieces.{puts_none, then, puts_out}
use Rattle.doubtful.proofs.page.put_heading.Goals as goal

pub returns-then-p : goal.returns-then-p
unfolding heading_pieces
returns-then-p c = record { puts = rw c.if-p.true (puts_none _ _); result_value = rw c.if-p.true }

pub returns : goal.returns
unfolding heading_pieces
returns c = record { puts = puts_out (ap (λ (q : Page). q.out) c.written.ensures) (rw c.if-p.false (then c.put_labelled-a.ensures c.put_text.ensures)); result_value = ap tally_of c.written.ensures }
