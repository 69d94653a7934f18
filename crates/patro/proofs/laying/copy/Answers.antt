-- `patro::laying::copy` meets its contract. Assumes nothing.
use mathlib.Core.Path.{sym}
use native.Mathlib.Omega.{arith}
use lib.Seq.{length-take-le}
use Rattle.patro.proofs.Drawing.{long, longer, fits}
use Rattle.patro.proofs.laying.copy.Goals as goal

pub returns-then-n-gt262143 : goal.returns-then-n-gt262143
returns-then-n-gt262143 c = long _ _ (rw (length-take-le c.args.n c.args.page.now (omega arith)) (omega arith))

pub returns-then-out-n : goal.returns-then-out-n
returns-then-out-n c = longer _ _ (rw (length-take-le c.args.n c.args.page.now (omega arith)) (omega arith))

pub slice_bounds-put-end : goal.slice_bounds-put-end
slice_bounds-put-end c = sym (length-take-le c.args.n c.args.page.now (omega arith))

pub returns : goal.returns
returns c = let e = length-take-le c.args.n c.args.page.now (omega arith) in fits _ _ (rw e (omega arith)) (rw e (omega arith)) c.put.ensures
