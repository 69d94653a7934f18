-- The buffer has the asked length and holds 7. Assumes nothing.
use Prim.Native.Nat.{ℕ}
use mathlib.Core.Path.{sym}
use lib.Seq.{length-take-le}
use Rattle.answers.proofs.Lent.{taken}
use borrow.Author.Rules.{rules}
use Rattle.desk.proofs.keeping.day.Goals as goal

pub slice_bounds-put_day-end : goal.slice_bounds-put_day-end
slice_bounds-put_day-end c = sym (length-take-le c.small-n.result _ (search rules))

pub returns : goal.returns
returns c =
    let n = c.small-n in
    rw (← n.ensures, ← taken {A = ℕ} n.result 65535 7 (search rules)) c.put_day.ensures
