use mathlib.Core.Path.{◌≡◌, refl, sym, ◌∙◌}
use Prim.Native.Nat.{◌+◌, ◌-◌, ◌<◌}
use native.Mathlib.Omega.{arith}
use lib.Ieee.{of_bits}
use Rattle.paper.specs.Floats.{near}
use Rattle.sky.specs.Tithi.{elongation_of}
use Rattle.sky.specs.Search.{offset}
use Rattle.sky.proofs.Halving.{halved_low, halved_high, halved_done}
use Rattle.sky.proofs.search.bisect_crossing.Goals as goal
use Rattle.sky.proofs.search.bisect_crossing.Goals.{then-elongation_offset, else-elongation_offset}

pub loop-done-init : goal.loop-done-init
loop-done-init c = refl

pub loop-done-preserved : goal.loop-done-preserved
unfolding near of_bits
loop-done-preserved c =
    let f = offset elongation_of c.args.target in
    let l = c.loop-done in
    let o = c.elongation_offset.ensures in
    let more : 0 < 30 - l._done = omega arith in
    let less : 30 - l._done - 1 ≡ 30 - (l._done + 1) = omega arith in
    l.invariant
    ∙ elim c.if-elongation_offset.branch [
      | then-elongation_offset w ↦ halved_low f (30 - l._done) l.a l.b more (rw o at w.if-elongation_offset.true) ∙ simp (less, w.a-is, w.b-is)
      | else-elongation_offset w ↦ halved_high f (30 - l._done) l.a l.b more (rw o at w.if-elongation_offset.false) ∙ simp (less, w.a-is, w.b-is)
    ]

pub returns : goal.returns
unfolding near of_bits
returns c =
    let l = c.loop-done in
    let e : 30 - l._done ≡ 0 = omega arith in
    sym (l.invariant ∙ rw e (halved_done (offset elongation_of c.args.target) l.a l.b))
