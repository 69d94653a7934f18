use Rattle.std.proofs.Common.{◌≡◌, ◌++◌, map, take, drop}
use Rattle.trig.specs.Inner.{sine_wave}
use Rattle.trig.proofs.put_waves.Given as goal

abbrev pub invariant-loop-v : goal.invariant-loop-v
invariant-loop-v l = l.values ≡ map sine_wave (take l.v-index l.initial.values) ++ drop l.v-index l.initial.values
