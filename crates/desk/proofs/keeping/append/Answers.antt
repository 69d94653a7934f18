-- The numbers of the line are the row. Assumes nothing.
use mathlib.Core.Path.{sym}
use native.Mathlib.Omega.{arith}
use lib.Seq.{length-take-le}
use Rattle.text.proofs.Writes.{wrote_front}
use Rattle.lending.proofs.Loans.{line_few}
use Rattle.desk.proofs.Answered.{says_done}
use borrow.Author.Rules.{rules}
use Rattle.desk.proofs.keeping.append.Goals as goal

pub slice_bounds-append_row-end : goal.slice_bounds-append_row-end
slice_bounds-append_row-end c = sym (length-take-le _ _ (search rules))

pub returns : goal.returns
returns c = λ ready.
    let a = c.args in
    let row = (wrote_front c.put_numbers-n.ensures (omega (arith, line_few a.w))).1 in
    let put = c.put_done.ensures in
    says_done (rw row at (c.append_row.ensures ready)) put.kept_value put.gathers
