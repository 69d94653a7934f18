-- `asked::words::split_all` meets its contract: the words so far, and those to come. Assumes nothing.
use Prim.Native.Nat.{◌-◌}
use mathlib.Core.Path.{refl, ◌∙◌}
use native.Mathlib.Omega.{arith}
use lib.ListN.{length-set}
use Rattle.text.proofs.Said.{number_said, number_unsaid, passed_said, passed_unsaid}
use Rattle.asked.proofs.Splits.{left_over, left-full, left-gap, left-bad, left_turn, words_none, words_tagged, word_said, word_unsaid, word_kind, below_most}
use borrow.Author.Rules.{rules}
use Rattle.asked.proofs.words.split_all.Goals as goal

pub returns-in_default : goal.returns-in_default
returns-in_default c = c.out_of_form.ensures ∙ words_none c.args.s.now (number_unsaid c.read_tag.result c.read_tag.ensures c.in_default.is)

pub loop-at-init : goal.loop-at-init
loop-at-init c = let t = c.in-Some in
    (omega arith, refl, words_tagged c.args.s.now t.tag t.after.at (number_said c.read_tag.result c.read_tag.ensures t.is))

pub returns-then-k-eq4096 : goal.returns-then-k-eq4096
returns-then-k-eq4096 c = let l = c.loop-at in
    c.out_of_form-then-k-eq4096.ensures ∙ left-full c.args.s.now l.values c.in-Some.tag l.form l.k l.at c.loop-at-test.true c.if-k-eq4096.true ∙ l.invariant.2

pub returns-in_default-pass : goal.returns-in_default-pass
returns-in_default-pass c = let l = c.loop-at in
    c.out_of_form-in_default-pass.ensures ∙ left-gap c.args.s.now l.values c.in-Some.tag l.form l.k l.at c.loop-at-test.true (below_most l.k l.invariant.0 c.if-k-eq4096.false)
    (passed_unsaid c.pass.result c.pass.ensures c.in_default-pass.is) ∙ l.invariant.2

pub returns-in_default-read_word : goal.returns-in_default-read_word
returns-in_default-read_word c = let l = c.loop-at in
    c.out_of_form-in_default-read_word.ensures ∙ left-bad c.args.s.now l.values c.in-Some.tag l.form l.k l.at c.loop-at-test.true (below_most l.k l.invariant.0 c.if-k-eq4096.false)
    (passed_said c.pass.result c.pass.ensures c.in-Some-pass.is)
    (word_unsaid c.read_word.result c.read_word.ensures.says c.in_default-read_word.is) ∙ l.invariant.2

pub form_with-form-requires : goal.form_with-form-requires
form_with-form-requires c = let w = c.read_word in word_kind w.result w.ensures.result_bound c.in-Some-read_word.is

pub slice_bounds-set_at-end : goal.slice_bounds-set_at-end
slice_bounds-set_at-end c = search rules

pub overflow_add-k : goal.overflow_add-k
overflow_add-k c = omega arith

pub loop-at-smaller : goal.loop-at-smaller
loop-at-smaller c =
    let l = c.loop-at in
    omega (arith, below_most l.k l.invariant.0 c.if-k-eq4096.false)

pub loop-at-preserved : goal.loop-at-preserved
loop-at-preserved c =
    let l = c.loop-at in
    let w = c.in-Some-read_word in
    let h = below_most l.k l.invariant.0 c.if-k-eq4096.false in (
      omega arith,
      rw c.set_at.ensures (simp length-set l.invariant.1),
      rw (c.form_with-form.ensures, c.set_at.ensures)
          (left_turn c.args.s.now l.values c.in-Some.tag l.form l.k l.at c.loop-at-test.true h
          (record { kind = w.kind; value = w.value }) w.next.at
          (passed_said c.pass.result c.pass.ensures c.in-Some-pass.is)
          (word_said c.read_word.result c.read_word.ensures.says w.is) ∙ l.invariant.2),
    )

pub returns : goal.returns
returns c = let l = c.loop-at in left_over c.args.s.now l.values c.in-Some.tag l.form l.k l.at c.loop-at-test.false ∙ l.invariant.2
