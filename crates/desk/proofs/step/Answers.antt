-- The line is answered over what is lent after it, and the next one is read.
use Rattle.std.proofs.Common.{refl}
use Rattle.desk.proofs.Turns.{step_done}
use Rattle.desk.proofs.step.Goals as goal

pub returns : goal.returns
returns g c = λ sound. step_done c.split-w.ensures c.octets_in-x.ensures c.lend-after.ensures (c.tell-said.ensures sound) refl c.next_turn.ensures
