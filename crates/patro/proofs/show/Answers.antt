-- `patro::show` is proved: a page that is laid lies in its buffer. Assumes nothing.
use mathlib.Core.Path.{sym}
use native.Mathlib.Omega.{arith}
use lib.Seq.{length-take-le}
use Rattle.patro.proofs.Drawing.{laid_fits}
use Rattle.patro.proofs.show.Goals as goal

pub slice_bounds-page-end : goal.slice_bounds-page-end
slice_bounds-page-end g c = let h = laid_fits _ _ c.lay.ensures c.in-Ok.is in omega arith

pub slice_bounds-write_page-end : goal.slice_bounds-write_page-end
slice_bounds-write_page-end g c = sym (length-take-le _ _ (let h = laid_fits _ _ c.lay.ensures c.in-Ok.is in h))
