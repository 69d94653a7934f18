-- What is left to store goes on from what is stored. Assumes nothing.
use Prim.Native.Nat.{◌-◌}
use mathlib.Core.Path.{refl, ◌∙◌}
use native.Mathlib.Nat.{add-zero}
use native.Mathlib.Omega.{arith}
use lib.ListN.{length-set, drop_of_length-le}
use Rattle.paper.proofs.Stores.{sets_turn}
use Rattle.grid.proofs.page.put_at.Goals as goal

pub loop-i-init : goal.loop-i-init
loop-i-init c = (refl, rw add-zero)

pub loop-i-preserved : goal.loop-i-preserved
loop-i-preserved c =
    let l = c.loop-i in
    let a = c.args in (
      simp length-set l.invariant.0,
      sets_turn l.out a.src.now a.at l.i 0 (omega arith) ∙ l.invariant.1,
    )

pub returns : goal.returns
returns c =
    let l = c.loop-i in
    rw (drop_of_length-le c.args.src.now {i = l.i} (omega arith)) at l.invariant.1
