use Prim.Native.Nat.{◌-◌}
use mathlib.Core.Path.{◌≡◌}
use lib.ListN.{length}
use Rattle.rules.specs.Rules.{rules_of}
use Rattle.doubtful.specs.Years.{sheet, month_lines}
use Rattle.doubtful.specs.Inner.{has_place}
use Rattle.doubtful.proofs.years.put_unopened_months.Given as goal

abbrev pub invariant-loop-j : goal.invariant-loop-j
invariant-loop-j l = (length l.out ≡ length l.initial.out) × (month_lines (rules_of l.rules) l.names l.year (has_place l.m) l.j (12 - l.j) (sheet l.out l.q) ≡ month_lines (rules_of l.rules) l.names l.year (has_place l.m) 0 12 (sheet l.initial.out l.initial.q))
