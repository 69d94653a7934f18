use mathlib.Core.Path.{◌≡◌}
use lib.ListN.{length}
use Rattle.kept.specs.Operations.{forgotten}
use Rattle.kept.specs.Held.{held, Ready}
use Rattle.patro.proofs.Months.{Sofar}
use Rattle.patro.proofs.years.draw_months.Given as goal

abbrev pub invariant-loop-month : goal.invariant-loop-month
invariant-loop-month l = (length l.page ≡ length l.initial.page) × Ready l.kept × (forgotten (held l.kept) ≡ forgotten (held l.initial.kept)) × Sofar (held l.initial.kept).table (held l.initial.kept).rows (held l.initial.kept).rules l.names l.today l.year l.initial.page l.month l.page l.at
