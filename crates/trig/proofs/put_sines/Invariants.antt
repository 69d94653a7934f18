use Rattle.std.proofs.Common.{◌≡◌}
use Rattle.trig.specs.Inner.{sine_of_wave}
use Rattle.trig.proofs.Waves.{over}
use Rattle.trig.proofs.put_sines.Given as goal

abbrev pub invariant-loop-i : goal.invariant-loop-i
invariant-loop-i l = l.values ≡ over sine_of_wave l.i l.angles l.initial.values
