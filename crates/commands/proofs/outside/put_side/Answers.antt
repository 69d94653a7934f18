-- `commands::outside::put_side` meets its contract. Assumes nothing.
use Rattle.text.proofs.Writes.{then}
use Rattle.commands.specs.Outside.{side_text}
use Rattle.commands.proofs.outside.put_side.Goals as goal

pub returns : goal.returns
unfolding side_text
returns c =
    then c.put_dashed-a.ensures
    (then c.put-b.ensures (then c.put_count-c.ensures (then c.put-d.ensures c.put_day.ensures)))
