use Rattle.std.proofs.Common.{◌≡◌, ◌++◌, map, take, drop}
use Rattle.trig.specs.Trig.{magnitude}
use Rattle.trig.proofs.drop_signs.Given as goal

abbrev pub invariant-loop-v : goal.invariant-loop-v
invariant-loop-v l = l.values ≡ map magnitude (take l.v-index l.initial.values) ++ drop l.v-index l.initial.values
