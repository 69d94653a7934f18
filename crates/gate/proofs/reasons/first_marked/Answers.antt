-- What the pairs left give is what all give. Assumes nothing.
use Prim.Native.Nat.{◌-◌}
use mathlib.Core.Path.{refl}
use native.Mathlib.Nat.{sub-zero}
use native.Mathlib.Omega.{arith}
use Rattle.gate.proofs.Why.{marked_none, marked_here, marked_on}
use Rattle.gate.proofs.reasons.first_marked.Goals as goal

pub loop-i-init : goal.loop-i-init
loop-i-init c = refl

pub returns-then-list-i-eq1 : goal.returns-then-list-i-eq1
returns-then-list-i-eq1 c =
    rw sub-zero at (marked_here c.args.list.now c.loop-i.i c.args.count c.loop-i-test.true _ c.loop-i.invariant c.if-list-i-eq1.true)

pub loop-i-preserved : goal.loop-i-preserved
loop-i-preserved c =
    marked_on c.args.list.now c.loop-i.i c.args.count c.loop-i-test.true _ c.loop-i.invariant c.if-list-i-eq1.false

pub returns : goal.returns
returns c =
    rw sub-zero at (marked_none c.args.list.now c.loop-i.i _ _ (omega arith) c.loop-i.invariant)
