-- As many as the form says, which are at most sixteen. Assumes nothing.
use native.Mathlib.Omega.{arith}
use Rattle.lending.proofs.Forms.{numbers_most}
use Rattle.lending.proofs.put_numbers.Goals as goal

pub append-requires : goal.append-requires
append-requires c = omega (arith, c.count_in.ensures, numbers_most c.args.w.form 16)

pub returns : goal.returns
returns c = rw c.count_in.ensures at c.append.ensures
