-- What is left to store goes on from what is stored. Assumes nothing.
use Prim.Native.Nat.{◌-◌}
use mathlib.Core.Path.{◌≡◌, refl, ◌∙◌}
use native.Mathlib.Nat.{add-zero}
use native.Mathlib.Omega.{arith}
use lib.ListN.{length, length-set}
use Rattle.shelf.proofs.Halves.{halves_turn, halves_end}
use Rattle.shelf.proofs.put_days.Goals as goal

pub loop-i-init : goal.loop-i-init
loop-i-init c = (refl, rw add-zero)

pub bounds-out-k-in-loop-i : goal.bounds-out-k-in-loop-i
bounds-out-k-in-loop-i c = simp length-set (omega arith)

pub loop-i-preserved : goal.loop-i-preserved
loop-i-preserved c =
    let l = c.loop-i in
    let n : length c.args.entries.days ≡ 64 = c.well_formed.1.1.0.1.1.0.1.0.1 in (
      simp length-set l.invariant.0,
      halves_turn l.out c.args.entries.days c.args.at l.i _ _ (omega arith) refl refl ∙ l.invariant.1,
    )

pub shape_of-out : goal.shape_of-out
shape_of-out c = c.loop-i.invariant.0

pub returns : goal.returns
returns c =
    let l = c.loop-i in
    let n : length c.args.entries.days ≡ 64 = c.well_formed.1.1.0.1.1.0.1.0.1 in
    halves_end l.out _ c.args.entries.days c.args.at l.i (omega arith) l.invariant.1
