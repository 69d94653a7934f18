-- Each buffer has the asked length and holds 7. Assumes nothing.
use Prim.Native.Nat.{ℕ}
use mathlib.Core.Path.{sym}
use borrow.Author.Tests.{eq-eqb, ne_eqb}
use lib.Seq.{length-take-le}
use Rattle.answers.proofs.Lent.{taken}
use Rattle.questions.specs.Months.{grid_words}
use borrow.Author.Rules.{rules}
use Rattle.questions.proofs.months.month.Goals as goal

pub slice_bounds-put_asked-end : goal.slice_bounds-put_asked-end
slice_bounds-put_asked-end c = sym (length-take-le c.small-n.result _ (search rules))

pub slice_bounds-put_asked-end-then-w-eq1111111 : goal.slice_bounds-put_asked-end-then-w-eq1111111
slice_bounds-put_asked-end-then-w-eq1111111 c = sym (length-take-le c.small-k.result _ (search rules))

pub returns-then-w-eq1111111 : goal.returns-then-w-eq1111111
unfolding grid_words
returns-then-w-eq1111111 c =
    let n = c.small-n in
    let k = c.small-k in
    rw (
      eq-eqb _ _ c.if-w-eq1111111.true,
      ← n.ensures,
      ← k.ensures,
      ← taken {A = ℕ} n.result 65535 7 (search rules),
      ← taken {A = ℕ} k.result 65535 7 (search rules),
    )
    c.put_asked.ensures

pub returns : goal.returns
unfolding grid_words
returns c = rw (ne_eqb _ _ c.if-w-eq1111111.false) c.put.ensures
