-- `wall::cells::put_row` meets its contract: the cells from the place reached are still to be written. Assumes nothing.
use Prim.Native.Nat.{◌+◌, ◌-◌}
use mathlib.Core.Path.{◌≡◌, refl, ◌∙◌}
use native.Mathlib.Omega.{arith}
use Rattle.text.proofs.Writes.{then}
use Rattle.text.specs.Quoted.{bytes}
use Rattle.wall.specs.Cells.{barred, row}
use Rattle.wall.proofs.Going.{written, repeated_then, repeated_end}
use Rattle.wall.proofs.cells.put_row.Goals as goal

pub loop-j-init : goal.loop-j-init
unfolding row
loop-j-init c = let e : c.args.i + 7 - c.args.i ≡ 7 = omega arith in (refl, rw e (λ after end w. w))

pub loop-j-preserved : goal.loop-j-preserved
loop-j-preserved c =
    let a = c.args in
    let l = c.loop-j in
    let t = repeated_then (barred a.k a.cells.now) 1 l.j (a.i + 7 - l.j) (a.i + 7 - (l.j + 1)) (bytes "|\n") (omega arith) in
    (c.put_piece-next.auto.out ∙ c.put-a.auto.out ∙ l.invariant.0, written l.invariant.1 (then c.put-a.ensures c.put_piece-next.ensures) _ t)

pub shape_of-out : goal.shape_of-out
shape_of-out c = c.put.auto.out ∙ c.loop-j.invariant.0

pub returns : goal.returns
returns c = let l = c.loop-j in l.invariant.1 _ _ (rw (repeated_end (barred c.args.k c.args.cells.now) 1 l.j (c.args.i + 7 - l.j) (omega arith)) c.put.ensures)
