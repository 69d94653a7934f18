use Rattle.gregorian.proofs.Instants
use Rattle.gregorian.proofs.is_instant.Goals as goal

pub returns-then-x : goal.returns-then-x
returns-then-x c = rw (Instants.instant_bits, c.if-x.true)

pub returns-else-x : goal.returns-else-x
returns-else-x c = rw (Instants.instant_bits, c.if-x.false)
