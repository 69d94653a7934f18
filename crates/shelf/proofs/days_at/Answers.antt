-- What is left to read goes on from what is read. Assumes nothing.
use Prim.Native.Nat.{◌-◌}
use mathlib.Core.Path.{ap, ◌∙◌}
use native.Mathlib.Nat.{add-zero}
use native.Mathlib.Omega.{arith}
use lib.ListN.{drop}
use Rattle.kept.specs.Held.{entries}
use Rattle.shelf.proofs.Halves.{wholes_turn, wholes_end}
use Rattle.shelf.proofs.days_at.Goals as goal

pub loop-i-init : goal.loop-i-init
loop-i-init c = rw add-zero

pub loop-i-preserved : goal.loop-i-preserved
loop-i-preserved c =
    let l = c.loop-i in
    let a = c.args in
    wholes_turn a.numbers.now l.days a.at l.i _ _ _ (omega arith) c.number_at.ensures c.number_at-in-loop-i.ensures c.whole.ensures ∙ l.invariant

pub returns : goal.returns
returns c =
    let l = c.loop-i in
    let a = c.args in
    ap entries (wholes_end l.days (drop a.at a.numbers.now) _ l.i (omega arith) l.invariant)
