-- `commands::outside::put_count` meets its contract. Assumes nothing.
use Rattle.std.proofs.Common.{eq-eqb, ne_eqb}
use Rattle.text.proofs.Writes.{then}
use Rattle.commands.specs.Outside.{count_text}
use Rattle.commands.proofs.outside.put_count.Goals as goal

pub returns-then-days-eq1 : goal.returns-then-days-eq1
unfolding count_text
returns-then-days-eq1 c =
    rw (eq-eqb c.args.days 1 c.if-days-eq1.true) (then c.put_decimal-a.ensures c.put.ensures)

pub returns : goal.returns
unfolding count_text
returns c =
    rw (ne_eqb c.args.days 1 c.if-days-eq1.false) (then c.put_decimal-a.ensures c.put-2.ensures)
