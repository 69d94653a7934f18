-- `commands::refusals::put_out_of_form` meets its contract. Assumes nothing.
use Rattle.text.proofs.Writes.{then}
use Rattle.commands.proofs.refusals.put_out_of_form.Goals as goal

pub returns : goal.returns
returns c =
    then c.put-a.ensures (then c.put_decimal-b.ensures c.put.ensures)
