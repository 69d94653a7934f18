use mathlib.Core.Path.{sym, ap}
use lib.IntN.{pos, negsuc}
use lib.Ieee.{of_bits}
use mir.Syntax.{w32}
use Rattle.paper.specs.Floats.{near}
use Rattle.sky.specs.Moon.{factor_power}
use Rattle.sky.proofs.Signed.{is, is_not}
use Rattle.sky.proofs.Series.{factor_else}
use Rattle.sky.proofs.moon.factor_power.Goals as goal

pub returns-then-multiple-eq0 : goal.returns-then-multiple-eq0
unfolding factor_power near of_bits
returns-then-multiple-eq0 c = sym (ap (factor_power c.args.factor) (is w32 c.args.multiple c.ranges.multiple 0 c.if-multiple-eq0.true))

pub returns-then-multiple-eq1 : goal.returns-then-multiple-eq1
unfolding factor_power
returns-then-multiple-eq1 c = sym (ap (factor_power c.args.factor) (is w32 c.args.multiple c.ranges.multiple 1 c.if-multiple-eq1.true))

pub returns-then-multiple-eqminus1 : goal.returns-then-multiple-eqminus1
unfolding factor_power
returns-then-multiple-eqminus1 c =
    sym (ap (factor_power c.args.factor) (is w32 c.args.multiple c.ranges.multiple 4294967295 c.if-multiple-eqminus1.true))

pub returns : goal.returns
returns c =
    let z = c.args.multiple in
    factor_else c.args.factor z (is_not w32 z (pos 0) c.if-multiple-eq0.false) (is_not w32 z (pos 1) c.if-multiple-eq1.false)
    (is_not w32 z (negsuc 0) c.if-multiple-eqminus1.false)
