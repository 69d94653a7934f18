use mathlib.Core.Path.{◌≡◌, sym, ap, ◌∙◌}
use mathlib.Core.Bool.{Bool, not}
use Prim.Native.Nat.{◌+◌, ◌-◌}
use native.Mathlib.Omega.{arith}
use Rattle.sky.specs.Tithi.{elongation_of}
use Rattle.sky.specs.Search.{offset}
use Rattle.sky.specs.Inner.{stopped}
use Rattle.sky.proofs.Steps.{rest_stop, rest_end, Turn, sought-begin, sought-none, sought-one, sought-out}
use Rattle.sky.proofs.search.next_start.Goals as goal
use Rattle.sky.proofs.search.next_start.Goals.{After-is_crossing}

pub loop-done-init : goal.loop-done-init
loop-done-init c =
    let all : c.args.steps - 0 ≡ c.args.steps = omega arith in
    rw all (sought-begin (offset elongation_of c.args.target) c.args.end c.args.steps c.args.from c.requires)

-- the step of a turn, from where the test of its offsets was made
turn : (x : After-is_crossing) →
    let a = x.args in
    Turn (offset elongation_of a.target) a.end x.loop-done.lo x.loop-done.f_lo x.step_end-hi.result x.elongation_offset-f_hi.result (a.steps - x.loop-done.done)
turn x =
    record { more = omega arith; go = x.if-not-lo-end.false; from_is = x.loop-done.invariant.from_is; end_is = x.step_end-hi.ensures; to_is = x.elongation_offset-f_hi.ensures }

pub returns-then-is_crossing : goal.returns-then-is_crossing
returns-then-is_crossing c =
    let a = c.args in
    sought-one (offset elongation_of a.target) a.end a.steps a.from c.loop-done.invariant (turn c.before.before) (sym c.is_crossing.ensures ∙ c.if-is_crossing.true) c.bisect_crossing.ensures

pub loop-done-preserved : goal.loop-done-preserved
loop-done-preserved c =
    let a = c.args in
    let less : a.steps - c.loop-done.done - 1 ≡ a.steps - (c.loop-done.done + 1) = omega arith in
    rw less at (sought-none (offset elongation_of a.target) a.end a.steps a.from c.loop-done.invariant (turn c.before) (sym c.is_crossing.ensures ∙ c.if-is_crossing.false))

pub returns-then-not-lo-end : goal.returns-then-not-lo-end
returns-then-not-lo-end c =
    let a = c.args in
    let f = offset elongation_of a.target in
    let h = c.if-not-lo-end.true in
    rw c.no_start.ensures (sought-out f a.end a.steps a.from c.loop-done.invariant (rest_stop f a.end (a.steps - c.loop-done.done) c.loop-done.lo h ∙ ap (λ (b : Bool). stopped (not b)) (sym h)))

pub returns : goal.returns
returns c =
    let a = c.args in
    let f = offset elongation_of a.target in
    let z : a.steps - c.loop-done.done ≡ 0 = omega arith in
    rw c.no_start-2.ensures (rw z at (sought-out f a.end a.steps a.from c.loop-done.invariant (rest_end f a.end (a.steps - c.loop-done.done) c.loop-done.lo z)))
