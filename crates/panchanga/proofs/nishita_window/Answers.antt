use Rattle.std.proofs.Common.{arith}
use lib.Ieee.{of_bits}
use Rattle.paper.specs.Floats.{near}
use Rattle.panchanga.proofs.Days.{number_room}
use Rattle.panchanga.proofs.nishita_window.Goals as goal

pub overflow_add-n : goal.overflow_add-n
overflow_add-n c = omega (arith, number_room c.args.date c.day_number.result _ c.day_number.ensures c.in_ok-n.was)

pub returns : goal.returns
unfolding near of_bits
returns c =
    rw (← c.next.ensures, c.in_ok-next.was, ← c.day_number.ensures, c.in_ok-n.was, c.nishita_between.ensures, c.events_on.ensures, c.events_on-2.ensures)
