-- `asked::words::split` meets its contract. Assumes nothing.
use mathlib.Core.Path.{sym, ap, ◌∙◌}
use lib.Seq.{length-take-le, take_all}
use native.Mathlib.Omega.{arith}
use Rattle.asked.specs.Line.{words_of}
use Rattle.asked.proofs.words.split.Goals as goal

pub slice_bounds-split_all-end : goal.slice_bounds-split_all-end
slice_bounds-split_all-end c = sym (length-take-le c.args.n c.args.line.now c.if-n-line.true)

pub returns : goal.returns
returns c = c.split_all-2.ensures ∙ ap words_of (sym (take_all c.args.n c.args.line.now (omega arith)))
