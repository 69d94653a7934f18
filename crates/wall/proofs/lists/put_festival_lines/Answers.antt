-- `wall::lists::put_festival_lines` meets its contract: the festivals from the place reached are still to be written. Assumes nothing.
use Prim.Native.Nat.{◌+◌, ◌-◌}
use mathlib.Core.Path.{◌≡◌, refl, ◌∙◌}
use native.Mathlib.Omega.{arith}
use Rattle.text.proofs.Writes.{then}
use Rattle.wall.specs.Lists.{line_of}
use Rattle.wall.proofs.Going.{stopped, written, repeated_turn, repeated_end}
use Rattle.wall.proofs.lists.put_festival_lines.Goals as goal

pub loop-f-init : goal.loop-f-init
loop-f-init c = let e : c.args.from + c.args.n - c.args.from ≡ c.args.n = omega arith in (refl, rw e (λ after end w. w))

pub loop-f-preserved : goal.loop-f-preserved
loop-f-preserved c =
    let a = c.args in
    let l = c.loop-f in
    let t = repeated_turn (line_of a.names.now a.cells.now a.festivals.now a.i) 1 l.f (a.from + a.n - l.f) (a.from + a.n - (l.f + 1)) (omega arith) in
    (c.put_festival-next.auto.out ∙ c.put_festival_day-a.auto.out ∙ l.invariant.0, written l.invariant.1 (then c.put_festival_day-a.ensures c.put_festival-next.ensures) _ t)

pub shape_of-out : goal.shape_of-out
shape_of-out c = c.loop-f.invariant.0

pub returns : goal.returns
returns c =
    let a = c.args in
    let l = c.loop-f in
    stopped l.invariant.1 (repeated_end (line_of a.names.now a.cells.now a.festivals.now a.i) 1 l.f (a.from + a.n - l.f) (omega arith))
