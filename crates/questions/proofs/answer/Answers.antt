-- The answer over what is lent. Assumes nothing.
use Prim.Native.Nat.{◌≤◌}
use mathlib.Core.Path.{sym}
use native.Mathlib.Omega.{arith}
use lib.ListN.{length}
use lib.Seq.{length-take-le}
use Rattle.questions.specs.Questions.{answer_words}
use Rattle.questions.proofs.Fronts.{take_front}
use Rattle.questions.proofs.answer.Goals as goal

pub slice_bounds-answer_over-end : goal.slice_bounds-answer_over-end
slice_bounds-answer_over-end c =
    let a = c.args in
    let h : c.min-cells.result ≤ length a.rows.now = omega (arith, c.min-cells.ensures) in
    sym (length-take-le _ _ h)

pub slice_bounds-answer_over-end-2 : goal.slice_bounds-answer_over-end-2
slice_bounds-answer_over-end-2 c =
    let a = c.args in
    let h : c.min-numbers.result ≤ length a.rules.now = omega (arith, c.min-numbers.ensures) in
    sym (length-take-le _ _ h)

pub slice_bounds-answer_over-end-3 : goal.slice_bounds-answer_over-end-3
slice_bounds-answer_over-end-3 c =
    let a = c.args in
    let h : c.min-octets.result ≤ length a.text.now = omega (arith, c.min-octets.ensures) in
    sym (length-take-le _ _ h)

pub returns : goal.returns
unfolding answer_words
returns c =
    let a = c.args in
    rw (
      ← take_front a.lent.cells c.min-cells.result a.rows.now c.min-cells.ensures,
      ← take_front a.lent.numbers c.min-numbers.result a.rules.now c.min-numbers.ensures,
      ← take_front a.lent.octets c.min-octets.result a.text.now c.min-octets.ensures,
    )
    c.answer_over.ensures
