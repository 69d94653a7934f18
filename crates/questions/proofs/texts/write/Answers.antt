-- The buffer has the asked length and holds 7. Assumes nothing.
use Prim.Native.Nat.{ℕ}
use mathlib.Core.Path.{sym}
use borrow.Author.Tests.{eq-eqb, ne_eqb}
use lib.Seq.{length-take-le}
use Rattle.answers.proofs.Lent.{taken}
use Rattle.questions.specs.Texts.{write_rules_words}
use borrow.Author.Rules.{rules}
use Rattle.questions.proofs.texts.write.Goals as goal

pub slice_bounds-put_written-end : goal.slice_bounds-put_written-end
slice_bounds-put_written-end c = sym (length-take-le c.small-n.result _ (search rules))

pub returns-then-w-eq1 : goal.returns-then-w-eq1
unfolding write_rules_words
returns-then-w-eq1 c = let n = c.small-n in
    rw (eq-eqb _ _ c.if-w-eq1.true, ← n.ensures, ← taken {A = ℕ} n.result 65535 7 (search rules)) c.put_written.ensures

pub returns : goal.returns
unfolding write_rules_words
returns c = rw (ne_eqb _ _ c.if-w-eq1.false) c.put.ensures
