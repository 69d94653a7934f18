-- `gate::said::put_festival` meets its contract. Assumes nothing.
use Rattle.text.proofs.Writes.{then}
use Rattle.gate.proofs.said.put_festival.Goals as goal

pub returns : goal.returns
returns c =
    then c.put-a.ensures (then c.put_festival_name-b.ensures c.put.ensures)
