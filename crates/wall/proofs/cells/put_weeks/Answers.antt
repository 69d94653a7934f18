-- `wall::cells::put_weeks` meets its contract: the weeks from the place reached are still to be written. Assumes nothing.
use Prim.Native.Nat.{◌+◌, ◌*◌, ◌-◌}
use mathlib.Core.Path.{◌≡◌, refl, ◌∙◌}
use native.Mathlib.Nat.{sub-zero}
use native.Mathlib.Omega.{arith}
use Rattle.wall.specs.Cells.{week}
use Rattle.wall.proofs.Going.{stopped, written, repeated_turn, repeated_end}
use Rattle.wall.proofs.cells.put_weeks.Goals as goal

pub loop-w-init : goal.loop-w-init
loop-w-init c = (refl, rw sub-zero (λ after end w. w))

pub loop-w-preserved : goal.loop-w-preserved
loop-w-preserved c =
    let a = c.args in
    let l = c.loop-w in
    let e : (l.w + 1) * 7 ≡ l.w * 7 + 7 = omega arith in
    let t = repeated_turn (week a.cells.now) 7 (l.w * 7) (a.weeks - l.w) (a.weeks - (l.w + 1)) (omega arith) in
    (c.put_week-next.auto.out ∙ l.invariant.0, rw e (written l.invariant.1 c.put_week-next.ensures _ t))

pub shape_of-out : goal.shape_of-out
shape_of-out c = c.loop-w.invariant.0

pub returns : goal.returns
returns c = let l = c.loop-w in stopped l.invariant.1 (repeated_end (week c.args.cells.now) 7 (l.w * 7) (c.args.weeks - l.w) (omega arith))
