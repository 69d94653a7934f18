use Rattle.trig.proofs.Waves.{sines_parts}
use Rattle.trig.proofs.sines.Goals as goal

pub returns : goal.returns
returns g c = rw (c.put_sines.ensures, c.put_waves.ensures, c.drop_signs.ensures) (sines_parts c.args.angles.now)
