-- `answers::searches::starts` meets its contract. Assumes nothing.
use mathlib.Core.Path.{sym}
use lib.Seq.{length-take-le}
use lib.Ieee.{binary64, of_bits}
use Rattle.answers.proofs.Lent.{taken, seven}
use borrow.Author.Rules.{rules}
use Rattle.answers.proofs.searches.starts.Goals as goal

pub slice_bounds-search-end : goal.slice_bounds-search-end
slice_bounds-search-end c = sym (length-take-le c.small-n.result _ (search rules))

pub returns : goal.returns
returns c = rw (← c.small-n.ensures, ← seven, ← taken c.small-n.result 65535 (of_bits binary64 4619567317775286272) (search rules)) c.search.ensures
