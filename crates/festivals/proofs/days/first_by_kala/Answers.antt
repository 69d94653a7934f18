-- `festivals::days::first_by_kala` meets its contract. The invariant: the days that are left give the same. Assumes nothing.
use mathlib.Core.Path.{refl, ◌∙◌}
use native.Mathlib.Omega.{arith}
use Rattle.festivals.proofs.Claims.{kala_claims, left_first, left_hit, left_miss, left_none}
use Rattle.festivals.proofs.Kalas.{kala_on}
use Rattle.festivals.proofs.days.first_by_kala.Goals as goal

pub loop-n-init : goal.loop-n-init
loop-n-init c = (refl, left_first _ _ _ _ _ c.requires.1)

pub returns-then-covers_kala : goal.returns-then-covers_kala
returns-then-covers_kala c =
    let a = c.args in
    left_hit _ _ _ _ _ _ (omega arith) c.loop-n.invariant.1 _
    (c.covers_kala.ensures ∙ kala_claims _ _ _ a.kala _ _ c.requires.0 (kala_on a.kala _ _ c.sun_on.ensures)) c.if-covers_kala.true

pub loop-n-preserved : goal.loop-n-preserved
loop-n-preserved c =
    let a = c.args in
    let claims = c.covers_kala.ensures ∙ kala_claims _ _ _ a.kala _ _ c.requires.0 (kala_on a.kala _ _ c.sun_on.ensures) in
    (c.loop-n.invariant.0, left_miss _ _ _ _ _ _ (omega arith) c.loop-n.invariant.1 _ claims c.if-covers_kala.false)

pub returns : goal.returns
returns c = left_none _ _ _ _ _ _ (omega arith) c.loop-n.invariant.1
