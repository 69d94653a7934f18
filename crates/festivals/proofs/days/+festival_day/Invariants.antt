-- The measure is the rank of the kala: it falls.
use Rattle.rules.specs.Days.{rank}
use Rattle.festivals.specs.Kathmandu.{kala_number}
use Rattle.festivals.proofs.days.+festival_day.Given as goal

abbrev pub decreases-festival_day : goal.decreases-festival_day
decreases-festival_day l = rank (kala_number l.kala)
