-- `commands::outside::put_dashed` meets its contract. Assumes nothing.
use Rattle.text.proofs.Writes.{then}
use Rattle.commands.specs.Outside.{dashed_text}
use Rattle.commands.proofs.outside.put_dashed.Goals as goal

pub returns : goal.returns
unfolding dashed_text
returns c =
    then c.put_wide-a.ensures
    (then c.put-b.ensures (then c.put_wide-c.ensures (then c.put-d.ensures c.put_wide.ensures)))
