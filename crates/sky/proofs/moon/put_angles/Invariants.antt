use mathlib.Core.Path.{◌≡◌}
use lib.Ieee.{nan}
use lib.ListN.{length, get_or}
use Rattle.sky.specs.Moon.{angle}
use Rattle.sky.specs.Inner.{row}
use Rattle.sky.proofs.Series.{Filled}
use Rattle.sky.proofs.moon.put_angles.Given as goal

abbrev pub invariant-loop-i : goal.invariant-loop-i
invariant-loop-i l = (length l.out ≡ 60) × Filled l.out (λ k. angle l.a (row l.terms k)) (λ k. get_or l.initial.out k nan) l.i
