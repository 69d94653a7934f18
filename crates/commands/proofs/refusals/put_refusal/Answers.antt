-- `commands::refusals::put_refusal` meets its contract. Assumes nothing.
use Rattle.text.proofs.Writes.{then}
use Rattle.commands.specs.Refusals.{refusal_text}
use Rattle.commands.proofs.refusals.put_refusal.Goals as goal

pub returns : goal.returns
unfolding refusal_text
returns c =
    rw (← c.number.ensures)
    (then c.put-a.ensures
    (then c.put_decimal-b.ensures
    (then c.put-c.ensures
    (then c.put_reason-d.ensures c.put.ensures))))
