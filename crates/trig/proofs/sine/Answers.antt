-- `trig::sine` meets its contract. Assumes nothing.
use Rattle.trig.proofs.Waves.{sine_parts}
use Rattle.trig.proofs.sine.Goals as goal

pub returns : goal.returns
returns c = rw (c.sine_of_wave.ensures, c.sine_wave.ensures, c.magnitude.ensures) (sine_parts c.args.x)
