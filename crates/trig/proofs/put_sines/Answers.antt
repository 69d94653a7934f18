use Rattle.std.proofs.Common.{◌≡◌, ◌<◌, length, add-one, arith, ap, ◌∙◌, sym}
use lib.Ieee.{nan}
use Rattle.trig.specs.Inner.{sine_of_wave}
use Rattle.trig.proofs.Waves.{over, over_none, over_length, over_more, over_all}
use Rattle.trig.proofs.put_sines.Goals as goal

pub loop-i-init : goal.loop-i-init
loop-i-init c = over_none sine_of_wave c.args.angles.now c.args.values.now

pub loop-i-preserved : goal.loop-i-preserved
loop-i-preserved c =
    let a = c.args in
    let q = over_more sine_of_wave c.loop-i.i a.angles.now a.values.now nan nan (omega arith) c.requires in
    rw add-one (cc q)

pub returns : goal.returns
returns c =
    let a = c.args in
    let e : c.loop-i.i ≡ length a.angles.now = omega arith in
    rw e at c.loop-i.invariant ∙ over_all sine_of_wave a.angles.now a.values.now c.requires
