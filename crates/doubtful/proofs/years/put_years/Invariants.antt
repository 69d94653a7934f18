use Prim.Native.Nat.{◌+◌, ◌-◌}
use mathlib.Core.Path.{◌≡◌}
use lib.ListN.{length}
use Rattle.conversion.specs.Flat.{flat}
use Rattle.rules.specs.Rules.{rules_of}
use Rattle.doubtful.specs.Years.{sheet, years_page}
use Rattle.doubtful.proofs.years.put_years.Given as goal

abbrev pub invariant-loop-year : goal.invariant-loop-year
invariant-loop-year l = (length l.out ≡ length l.initial.out) × (years_page (flat l.table l.rows) (rules_of l.rules) l.names l.year (l.last + 1 - l.year) (sheet l.out l.q) ≡ years_page (flat l.table l.rows) (rules_of l.rules) l.names l.first (l.last + 1 - l.first) (sheet l.initial.out l.initial.q))
