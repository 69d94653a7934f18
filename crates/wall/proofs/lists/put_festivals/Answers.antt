-- `wall::lists::put_festivals` meets its contract: the cells from the place reached are still to be written. Assumes nothing.
use Prim.Native.Nat.{◌+◌, ◌-◌}
use mathlib.Core.Path.{refl, ◌∙◌}
use native.Mathlib.Nat.{sub-zero}
use native.Mathlib.Omega.{arith}
use Rattle.wall.specs.Lists.{festivals_on}
use Rattle.wall.proofs.Going.{stopped, written, repeated_turn, repeated_end}
use Rattle.wall.proofs.lists.put_festivals.Goals as goal

pub loop-i-init : goal.loop-i-init
loop-i-init c = (refl, rw sub-zero (λ after end w. w))

pub loop-i-preserved : goal.loop-i-preserved
loop-i-preserved c =
    let a = c.args in
    let l = c.loop-i in
    let t = repeated_turn (festivals_on a.names.now a.cells.now a.festivals.now) 1 l.i (a.n - l.i) (a.n - (l.i + 1)) (omega arith) in
    (c.put_festivals_on-next.auto.out ∙ l.invariant.0, written l.invariant.1 c.put_festivals_on-next.ensures _ t)

pub shape_of-out : goal.shape_of-out
shape_of-out c = c.loop-i.invariant.0

pub returns : goal.returns
returns c =
    let a = c.args in
    let l = c.loop-i in
    stopped l.invariant.1 (repeated_end (festivals_on a.names.now a.cells.now a.festivals.now) 1 l.i (a.n - l.i) (omega arith))
