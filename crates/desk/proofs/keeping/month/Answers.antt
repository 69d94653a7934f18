-- Each buffer has the asked length and holds 7. Assumes nothing.
use Prim.Native.Nat.{ℕ}
use mathlib.Core.Path.{sym}
use lib.Seq.{length-take-le}
use Rattle.answers.proofs.Lent.{taken}
use borrow.Author.Rules.{rules}
use Rattle.desk.proofs.keeping.month.Goals as goal

pub slice_bounds-put_month-end : goal.slice_bounds-put_month-end
slice_bounds-put_month-end c = sym (length-take-le c.small-n.result _ (search rules))

pub slice_bounds-put_month-end-2 : goal.slice_bounds-put_month-end-2
slice_bounds-put_month-end-2 c = sym (length-take-le c.small-k.result _ (search rules))

pub returns : goal.returns
returns c =
    let k = c.small-k in
    let n = c.small-n in
    rw (
      ← n.ensures,
      ← k.ensures,
      ← taken {A = ℕ} n.result 65535 7 (search rules),
      ← taken {A = ℕ} k.result 65535 7 (search rules),
    )
    c.put_month.ensures
