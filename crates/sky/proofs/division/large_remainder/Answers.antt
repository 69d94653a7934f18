use Rattle.sky.proofs.Digits.{number, shift, divisor, power_held, near_is, far_is}
use Rattle.sky.proofs.division.large_remainder.Goals as goal

pub float_to_bits-pattern : goal.float_to_bits-pattern
float_to_bits-pattern c = number c.args.size c.requires.finite

pub overflow_shl-result : goal.overflow_shl-result
overflow_shl-result c = shift c.args.size c.args.n c.well_formed.0.1 c.requires.above c.ranges.n.fits c.requires.finite c.requires.large

pub nonzero_rem-result : goal.nonzero_rem-result
nonzero_rem-result c = divisor c.args.size c.args.n c.well_formed.0.1 c.requires.above c.ranges.n.fits c.requires.finite c.requires.large c.if-exponent-lt1075.true

pub overflow_shl-result-then-exponent-lt1075 : goal.overflow_shl-result-then-exponent-lt1075
overflow_shl-result-then-exponent-lt1075 c = shift c.args.size c.args.n c.well_formed.0.1 c.requires.above c.ranges.n.fits c.requires.finite c.requires.large

pub int_to_float-result-then-exponent-lt1075 : goal.int_to_float-result-then-exponent-lt1075
int_to_float-result-then-exponent-lt1075 c =
    power_held c.args.size c.args.n c.well_formed.0.1 c.requires.above c.ranges.n.fits c.requires.finite c.requires.large c.if-exponent-lt1075.true

pub returns-then-exponent-lt1075 : goal.returns-then-exponent-lt1075
returns-then-exponent-lt1075 c =
    near_is c.args.size c.args.n c.well_formed.0.1 c.requires.above c.ranges.n.fits c.requires.finite c.requires.large c.if-exponent-lt1075.true

pub returns : goal.returns
returns c =
    far_is c.args.size c.args.n c.well_formed.0.1 c.requires.above c.ranges.n.fits c.requires.finite c.requires.large c.if-exponent-lt1075.false c.doubled.result c.doubled.ensures
