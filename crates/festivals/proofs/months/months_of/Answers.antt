-- `festivals::months::months_of` meets its contract. The invariant: what is left to place comes to the same. Assumes nothing.
use mathlib.Core.Path.{refl, sym, ◌∙◌}
use native.Mathlib.Omega.{arith}
use lib.ListN.{take}
use Rattle.conversion.specs.Flat.{flat}
use Rattle.festivals.proofs.Placed.{month_of_law}
use Rattle.festivals.proofs.Moons.{put, stands_turn, stands_all, place-nothing, place-outside, place_other, place_in, placed_first, none_yet}
use Rattle.festivals.proofs.months.months_of.Goals as goal

pub loop-x-init : goal.loop-x-init
loop-x-init c = refl

pub loop-x-preserved-in_default : goal.loop-x-preserved-in_default
loop-x-preserved-in_default c =
    stands_turn _ _ _ _ _ _ _ _ c.loop-x-test.true (place-nothing _ _ _ _ _ c.in_default.ensures) c.loop-x.invariant

pub loop-x-preserved-in_default-place : goal.loop-x-preserved-in_default-place
loop-x-preserved-in_default-place c =
    stands_turn _ _ _ _ _ _ _ _ c.loop-x-test.true (place-outside _ _ _ _ _ _ c.in-Some.ensures _ (sym c.in_default-place.ensures)) c.loop-x.invariant

pub loop-x-preserved-then-date-year : goal.loop-x-preserved-then-date-year
loop-x-preserved-then-date-year c =
    stands_turn _ _ _ _ _ _ _ _ c.loop-x-test.true (place_other _ _ _ _ _ _ c.in-Some.ensures _ (sym c.in-Ok.ensures) c.if-date-year.true) c.loop-x.invariant

pub overflow_sub-date : goal.overflow_sub-date
overflow_sub-date c = omega (arith, month_of_law _ _ _ (sym c.in-Ok.ensures))

pub bounds-m-date : goal.bounds-m-date
bounds-m-date c = omega (arith, month_of_law _ _ _ (sym c.in-Ok.ensures))

pub loop-x-preserved : goal.loop-x-preserved
unfolding put
loop-x-preserved c =
    stands_turn _ _ _ _ _ _ _ _ c.loop-x-test.true (place_in _ _ _ _ _ _ c.in-Some.ensures _ (sym c.in-Ok.ensures) c.if-date-year.false) c.loop-x.invariant

pub returns : goal.returns
returns c =
    let a = c.args in
    let k = flat a.table a.rows.now in
    let m = stands_all _ k a.year (take a.n a.found.now) _ _ c.loop-x.x-index c.loop-x-test.false c.loop-x.invariant in
    m ∙ placed_first _ k a.year _ _ none_yet
