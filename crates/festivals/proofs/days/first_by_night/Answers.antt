-- `festivals::days::first_by_night` meets its contract. The invariant: the days that are left give the same, and `today` has the events of the next.
-- Assumes nothing.
use mathlib.Core.Path.{refl, ◌∙◌}
use native.Mathlib.Omega.{arith}
use Rattle.festivals.proofs.Claims.{night_claims, left_first, left_hit, left_miss, left_none}
use Rattle.festivals.proofs.Kalas.{night_on}
use Rattle.festivals.proofs.days.first_by_night.Goals as goal

pub loop-n-init : goal.loop-n-init
loop-n-init c = (refl, c.sun_on-today.ensures, left_first _ _ _ _ _ c.requires.0)

pub returns-then-covers_night : goal.returns-then-covers_night
returns-then-covers_night c =
    let i = c.loop-n.invariant in
    let claims = c.covers_night.ensures ∙ night_claims _ _ _ _ _ (night_on _ _ _ _ i.1 c.sun_on-tomorrow.ensures c.nishita_between.ensures) in
    left_hit _ _ _ _ _ _ (omega arith) i.2 _ claims c.if-covers_night.true

pub loop-n-preserved : goal.loop-n-preserved
loop-n-preserved c =
    let i = c.loop-n.invariant in
    let claims = c.covers_night.ensures ∙ night_claims _ _ _ _ _ (night_on _ _ _ _ i.1 c.sun_on-tomorrow.ensures c.nishita_between.ensures) in
    (i.0, c.sun_on-tomorrow.ensures, left_miss _ _ _ _ _ _ (omega arith) i.2 _ claims c.if-covers_night.false)

pub returns : goal.returns
returns c = left_none _ _ _ _ _ _ (omega arith) c.loop-n.invariant.2
