use Rattle.std.proofs.Common.{◌≡◌, None, drop}
use Rattle.faults.specs.Lines.{end_byte}
use Rattle.faults.proofs.lines.end_byte.Given as goal

abbrev pub invariant-loop-b : goal.invariant-loop-b
invariant-loop-b l = end_byte l.last (drop l.b-index l.s) ≡ end_byte None l.s
