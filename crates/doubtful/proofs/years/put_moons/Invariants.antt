use mathlib.Core.Path.{◌≡◌}
use lib.ListN.{length, drop}
use Rattle.conversion.specs.Flat.{flat}
use Rattle.rules.specs.Rules.{rules_of}
use Rattle.doubtful.specs.Years.{sheet, moon_lines}
use Rattle.doubtful.proofs.years.put_moons.Given as goal

abbrev pub invariant-loop-x : goal.invariant-loop-x
invariant-loop-x l = (length l.out ≡ length l.initial.out) × (moon_lines (flat l.table l.rows) l.year (rules_of l.rules) l.names (drop l.x-index l.x-items) (sheet l.out l.q) ≡ moon_lines (flat l.table l.rows) l.year (rules_of l.rules) l.names l.x-items (sheet l.initial.out l.initial.q))
