use mathlib.Core.Path.{◌≡◌}
use lib.Ieee.{nan}
use lib.ListN.{get_or}
use Rattle.sky.specs.Inner.{row, added}
use Rattle.sky.proofs.moon.add_terms.Given as goal

abbrev pub invariant-loop-i : goal.invariant-loop-i
invariant-loop-i l = (l.sum ≡ added (row l.terms) l.factor (λ k. get_or l.sines k nan) l.i)
