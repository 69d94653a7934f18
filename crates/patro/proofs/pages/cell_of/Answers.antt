-- `patro::pages::cell_of` meets its contract: the cell is to be found from the place reached. Assumes nothing.
use Prim.Native.Nat.{◌+◌, ◌-◌}
use mathlib.Core.Path.{◌≡◌, refl, sym, ◌∙◌}
use native.Mathlib.Nat.{add-zero}
use native.Mathlib.Omega.{arith}
use Rattle.wall.proofs.Places.{place_over, place_found, place_turn}
use Rattle.patro.specs.Pages.{cell_day}
use Rattle.patro.proofs.pages.cell_of.Goals as goal

pub loop-i-init : goal.loop-i-init
loop-i-init c = refl

pub returns-then-cells-i : goal.returns-then-cells-i
returns-then-cells-i c =
    let a = c.args in
    let l = c.loop-i in
    place_found (cell_day a.cells.now) a.day l.i (42 - l.i) (rw add-zero c.if-cells-i.true) ∙ l.invariant

pub loop-i-preserved : goal.loop-i-preserved
loop-i-preserved c =
    let a = c.args in
    let l = c.loop-i in
    place_turn (cell_day a.cells.now) a.day l.i (42 - l.i) (42 - (l.i + 1)) (omega arith) (rw add-zero c.if-cells-i.false) ∙ l.invariant

pub returns : goal.returns
returns c =
    let a = c.args in
    let l = c.loop-i in
    let e : l.i ≡ 42 = omega arith in
    sym e ∙ place_over (cell_day a.cells.now) a.day l.i (42 - l.i) (omega arith) ∙ l.invariant
