use Rattle.conversion.specs.Flat.{flat}
use Rattle.festivals.specs.Kathmandu.{kathmandu}
use Rattle.festivals.proofs.Moons.{Stands}
use Rattle.festivals.proofs.months.months_of.Given as goal

abbrev pub invariant-loop-x : goal.invariant-loop-x
invariant-loop-x l = Stands kathmandu (flat l.table l.rows) l.year l.x-items l.initial.m l.m l.x-index
