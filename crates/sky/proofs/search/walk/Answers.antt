use mathlib.Core.Path.{◌≡◌, ap}
use Prim.Native.Nat.{◌+◌, ◌≤◌}
use native.Mathlib.Omega.{arith}
use Rattle.std.specs.Prelude.{None}
use Rattle.std.proofs.Common.{rules}
use lib.ListN.{length}
use Rattle.sky.specs.Tithi.{elongation_of}
use Rattle.sky.specs.Search.{offset}
use Rattle.sky.proofs.Steps.{came_one, all-begin, all_room, all_more, all_end}
use Rattle.sky.proofs.search.walk.Goals as goal
use Rattle.sky.proofs.search.walk.Goals.{In-Some}

pub loop-next-init : goal.loop-next-init
loop-next-init c =
    all-begin (offset elongation_of c.target_of-target.result) c.args.to.0 c.args.from.0 c.args.found.now c.requires c.first_next-next.ensures

-- the offset of the search, and the room that is left where one more start was found
module _ (c : In-Some) where
  room : c.loop-next.count + 1 + c.loop-next.next.left ≤ 1024
  room =
      let a = c.args in
      all_room (offset elongation_of c.target_of-target.result) a.to.0 a.from.0 c.loop-next.invariant c.in-Some.is

pub offset_bounds-found-count : goal.offset_bounds-found-count
offset_bounds-found-count c = omega (arith, room c)

pub bounds-found-count : goal.bounds-found-count
bounds-found-count c = omega (arith, room c)

pub overflow_add-count : goal.overflow_add-count
overflow_add-count c = omega (arith, room c)

pub next_start-next-requires : goal.next_start-next-requires
next_start-next-requires c = c.loop-next.invariant.gap_is

pub loop-next-smaller : goal.loop-next-smaller
loop-next-smaller c =
    omega (arith, c.next_start-next.ensures.fewer, ap length (came_one c.loop-next.next c.in-Some.is))

pub loop-next-preserved : goal.loop-next-preserved
loop-next-preserved c =
    let a = c.args in
    all_more (offset elongation_of c.target_of-target.result) a.to.0 a.from.0 c.loop-next.invariant c.in-Some.is c.next_start-next.ensures

pub returns : goal.returns
returns c =
    let a = c.args in
    let h = c.in_default.is in
    let k = c.in_default.not-Some in
    let none : c.loop-next.next.at ≡ None = search rules in
    let e = all_end (offset elongation_of c.target_of-target.result) a.to.0 a.from.0 c.loop-next.invariant none in
    rw (← c.target_of-target.ensures) (record { count = e.0; steps = e.1.0; ended = e.1.1.0; written = e.1.1.1 })
