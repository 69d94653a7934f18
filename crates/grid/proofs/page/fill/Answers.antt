-- What is left to store goes on from what is stored, in both. Assumes nothing.
use Prim.Native.Nat.{◌-◌}
use native.Mathlib.Omega.{arith}
use Rattle.grid.proofs.Marks.{cell_length}
use Rattle.grid.proofs.Pages.{left_first, left_turn, left_none}
use Rattle.grid.proofs.page.fill.Goals as goal

pub loop-d-init : goal.loop-d-init
loop-d-init c = left_first _ _ _ _ _ _

pub put_cell-at-requires : goal.put_cell-at-requires
put_cell-at-requires c =
    let l = c.loop-d.invariant in
    record {
      rules_value = c.requires.rules_value;
      planned = (c.requires.planned.0, c.loop-d-test.true);
      roomy =
          (record { cells = omega (arith, l.page_kept, c.requires.planned.1.cells); festivals = omega (arith, l.lists_kept, c.requires.planned.1.festivals) }, l.few);
    }

pub loop-d-preserved : goal.loop-d-preserved
loop-d-preserved c =
    let l = c.loop-d in
    let p = c.put_cell-at.ensures in
    left_turn _ _ _ _ _ _ l.page l.lists l.at l.d l.invariant _ _ _ c.loop-d-test.true (cell_length _ _ _ _ _) p.page_after p.lists_after p.value p.upper_bound

pub shape_of-page : goal.shape_of-page
shape_of-page c = c.loop-d.invariant.page_kept

pub shape_of-lists : goal.shape_of-lists
shape_of-lists c = c.loop-d.invariant.lists_kept

pub returns : goal.returns
returns c =
    let l = c.loop-d in
    let n = left_none _ _ _ _ _ _ l.page l.lists l.at l.d l.invariant c.loop-d-test.false in
    record { page_after = n.0; lists_after = n.1; value = n.2; upper_bound = omega (arith, l.invariant.few, l.invariant.so_far, c.requires.planned.0.few) }
