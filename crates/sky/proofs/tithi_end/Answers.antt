use lib.Ieee.{of_bits}
use Rattle.paper.specs.Floats.{near}
use Rattle.sky.proofs.tithi_end.Goals as goal
use Rattle.sky.proofs.tithi_end.Goals.{else-is_instant-via-then-is_instant+else-is_instant-2, else-is_instant-via-else-is_instant}

pub returns-then-is_instant-2 : goal.returns-then-is_instant-2
unfolding near of_bits
returns-then-is_instant-2 c =
    rw (← c.is_instant.ensures, c.if-is_instant.true, ← c.is_instant-then-is_instant.ensures, c.if-is_instant-2.true, c.end_of.ensures, c.tithi_of-running.ensures, c.elongation_of.ensures)

pub returns : goal.returns
unfolding near of_bits
returns c =
    elim c.else-is_instant.branch [
      | else-is_instant-via-then-is_instant+else-is_instant-2 w ↦
          rw (← c.is_instant.ensures, w.if-is_instant.true, ← w.is_instant-then-is_instant.ensures, w.if-is_instant-2.false)
      | else-is_instant-via-else-is_instant w ↦ rw (← c.is_instant.ensures, w.if-is_instant.false)
    ]
