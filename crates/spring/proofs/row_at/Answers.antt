-- `spring::row_at` is proved. Assumes nothing.
use mathlib.Core.Path.{sym}
use lib.Seq.{length-take-le}
use borrow.Author.Rules.{rules}
use Rattle.spring.proofs.row_at.Goals as goal

pub slice_bounds-year_count-end : goal.slice_bounds-year_count-end
slice_bounds-year_count-end c = sym (length-take-le _ _ (search rules))
