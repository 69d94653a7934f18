-- `fields::row::read_row` meets its contract: the numbers so far, and those to come. Assumes nothing.
use native.Mathlib.Omega.{arith}
use mathlib.Core.Path.{refl, sym, ◌∙◌}
use lib.ListN.{length-set, drop}
use Rattle.text.proofs.Said.{number_unsaid}
use Rattle.fields.proofs.Rows.{left_first, left_over, left-full, left-bad, left_turn, number_small, below_thirteen}
use Rattle.fields.proofs.row.read_row.Goals as goal

pub loop-values-init : goal.loop-values-init
loop-values-init c = (omega arith, refl, left_first c.args.s.now c.past_spaces-at.result c.past_spaces-at.ensures.1)

pub returns-then-k-eq13 : goal.returns-then-k-eq13
returns-then-k-eq13 c = let l = c.loop-values in
    c.faulty.ensures ∙ left-full c.args.s.now l.values l.k l.at (sym c.ends.ensures ∙ c.loop-values-test.true) c.if-k-eq13.true ∙ l.invariant.2

pub returns-in_default : goal.returns-in_default
returns-in_default c = let l = c.loop-values in
    c.faulty-in_default.ensures ∙ left-bad c.args.s.now l.values l.k l.at (sym c.ends.ensures ∙ c.loop-values-test.true) (below_thirteen l.k l.invariant.0 c.if-k-eq13.false) (number_unsaid c.read_number.result c.read_number.ensures c.in_default.is) ∙ l.invariant.2

pub overflow_cast-values : goal.overflow_cast-values
overflow_cast-values c = let l = c.loop-values in
    omega (arith, number_small (drop l.at c.args.s.now) c.in-Some.n (drop c.in-Some.next.at c.args.s.now) (sym c.in-Some.ensures.same))

pub loop-values-preserved : goal.loop-values-preserved
loop-values-preserved c = let l = c.loop-values in
    let h = below_thirteen l.k l.invariant.0 c.if-k-eq13.false in
    (omega arith, simp length-set l.invariant.1, left_turn c.args.s.now l.values l.k l.at (sym c.ends.ensures ∙ c.loop-values-test.true) h c.in-Some.n c.in-Some.next.at (sym c.in-Some.ensures.same) ∙ l.invariant.2)

pub returns : goal.returns
returns c = let l = c.loop-values in left_over c.args.s.now l.values l.k l.at (sym c.ends.ensures ∙ c.loop-values-test.false) ∙ l.invariant.2
