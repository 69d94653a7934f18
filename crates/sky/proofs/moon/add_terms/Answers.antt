-- `sky::moon::add_terms` meets its contract. Assumes nothing.
use mathlib.Core.Path.{◌≡◌, refl}
use native.Mathlib.Omega.{arith}
use lib.Ieee.{nan, of_bits}
use lib.ListN.{get_or}
use Rattle.paper.specs.Floats.{near}
use Rattle.sky.specs.Inner.{row, added}
use Rattle.sky.proofs.Series.{row_more}
use Rattle.sky.proofs.moon.add_terms.Goals as goal

pub loop-i-init : goal.loop-i-init
unfolding added near of_bits
loop-i-init c = refl

pub loop-i-preserved : goal.loop-i-preserved
loop-i-preserved c =
    let a = c.args in
    row_more (row a.terms.now) a.factor (λ k. get_or a.sines.now k nan) c.loop-i.i c.loop-i.invariant refl refl c.add_term-sum.ensures

pub returns : goal.returns
returns c =
    let e : c.loop-i.i ≡ 60 = omega arith in
    rw e at c.loop-i.invariant
