-- `growth::last_year` meets its contract. Assumes nothing.
use native.Mathlib.Omega.{arith}
use Rattle.conversion.proofs.Accepted.{facts}
use Rattle.growth.specs.Growth.{last_year}
use Rattle.growth.proofs.last_year.Goals as goal

pub overflow_sub-result : goal.overflow_sub-result
overflow_sub-result c = omega (arith, c.year_count.ensures, (facts c.args.table c.args.rows.now c.requires).frame)

pub overflow_cast-result : goal.overflow_cast-result
overflow_cast-result c = omega (arith, c.year_count.ensures, (facts c.args.table c.args.rows.now c.requires).frame)

pub overflow_add-result : goal.overflow_add-result
overflow_add-result c = omega (arith, c.year_count.ensures, (facts c.args.table c.args.rows.now c.requires).frame)

pub returns : goal.returns
unfolding last_year
returns c = omega (arith, c.year_count.ensures, (facts c.args.table c.args.rows.now c.requires).frame)
