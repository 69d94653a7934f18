use Rattle.conversion.specs.Flat.{flat}
use Rattle.festivals.specs.Kathmandu.{kathmandu}
use Rattle.festivals.proofs.Entries.{Entered}
use Rattle.festivals.proofs.years.resolve_year.Given as goal

abbrev pub invariant-loop-i : goal.invariant-loop-i
invariant-loop-i l = Entered kathmandu (flat l.table l.rows) l.year l.rules l.i-end l.out.days l.j l.i
