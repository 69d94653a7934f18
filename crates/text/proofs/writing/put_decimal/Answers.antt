-- `text::writing::put_decimal` meets its contract. Assumes nothing.
use native.Mathlib.Omega.{arith}
use Rattle.text.proofs.Decimals.{places_most}
use Rattle.text.proofs.writing.put_decimal.Goals as goal

pub put_run-requires : goal.put_run-requires
put_run-requires c = let m = places_most c.args.n c.ranges.n.fits in omega arith
