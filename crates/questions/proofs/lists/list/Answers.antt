-- The buffer has the asked length and holds 7. Assumes nothing.
use Prim.Native.Nat.{ℕ}
use mathlib.Core.Path.{sym}
use borrow.Author.Tests.{eq-eqb, ne_eqb}
use lib.Seq.{length-take-le}
use Rattle.answers.proofs.Lent.{taken}
use Rattle.questions.specs.Lists.{list_words}
use borrow.Author.Rules.{rules}
use Rattle.questions.proofs.lists.list.Goals as goal

pub slice_bounds-put_asked-end : goal.slice_bounds-put_asked-end
slice_bounds-put_asked-end c = sym (length-take-le c.small-n.result _ (search rules))

pub returns-then-w-eq1111 : goal.returns-then-w-eq1111
unfolding list_words
returns-then-w-eq1111 c = rw (eq-eqb _ _ c.if-w-eq1111.true, ← c.small-n.ensures, ← taken {A = ℕ} c.small-n.result 65535 7 (search rules)) c.put_asked.ensures

pub returns : goal.returns
unfolding list_words
returns c = rw (ne_eqb _ _ c.if-w-eq1111.false) c.put.ensures
