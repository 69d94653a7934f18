-- `asked::floats::float_of` meets its contract. Assumes nothing.
use Rattle.asked.proofs.Patterns.{pattern_number, pattern_none, no_quotient}
use mathlib.Core.Path.{◌∙◌}
use Rattle.asked.proofs.floats.float_of.Goals as goal

pub returns-then-bits-gt9218868437227405312 : goal.returns-then-bits-gt9218868437227405312
returns-then-bits-gt9218868437227405312 c = no_quotient ∙ pattern_none c.args.bits c.if-bits-gt9218868437227405312.true

pub float_from_bits-result : goal.float_from_bits-result
float_from_bits-result c = pattern_number c.args.bits c.if-bits-gt9218868437227405312.false
