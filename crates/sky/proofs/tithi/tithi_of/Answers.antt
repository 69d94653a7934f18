use mathlib.Core.Path.{◌≡◌, refl}
use native.Mathlib.Omega.{arith}
use Rattle.sky.specs.Tithi.{twelves, tithi_of}
use Rattle.sky.proofs.Twelves.{twelves_le, twelves_more, twelves_same}
use Rattle.sky.proofs.tithi.tithi_of.Goals as goal
use Rattle.sky.proofs.tithi.tithi_of.Goals.{then-k-x, else-k-x}

pub loop-k-init : goal.loop-k-init
unfolding twelves
loop-k-init c = refl

pub int_to_float-k : goal.int_to_float-k
int_to_float-k c = tt

pub overflow_add-n : goal.overflow_add-n
overflow_add-n c = omega (arith, twelves_le c.args.x c.loop-k.k)

pub loop-k-preserved : goal.loop-k-preserved
loop-k-preserved c =
    let x = c.args.x in
    let k = c.loop-k.k in
    elim c.if-k-x.branch [ then-k-x w ↦ omega (arith, twelves_more x k w.if-k-x.true) | else-k-x w ↦ omega (arith, twelves_same x k w.if-k-x.false) ]

pub returns : goal.returns
unfolding tithi_of
returns c =
    let e : c.loop-k.k ≡ 29 = omega arith in
    rw e at c.loop-k.invariant
