-- `text::reading::read_fixed` meets its contract: the number so far, and the digits that are left. Assumes nothing.
use Prim.Native.Nat.{◌+◌, ◌-◌, ◌*◌, ◌^◌}
use mathlib.Core.Path.{◌≡◌, ap, ◌∙◌}
use native.Mathlib.Omega.{arith}
use lib.ListN.{length, drop, length-drop}
use Rattle.text.specs.Digits.{fixed}
use Rattle.text.proofs.Texts.{part_inside, part_at}
use Rattle.text.proofs.Turns.{digit_is, fixed_short, fixed_stop, fixed_turn, room_turn, room_small}
use Rattle.text.proofs.reading.read_fixed.Goals as goal

pub returns-then-s-from : goal.returns-then-s-from
returns-then-s-from c = let a = c.args in
    let w = c.within-from in
    record {
      same = fixed_short a.base a.k 0 (drop a.at a.s.now) (omega (arith, length-drop w.result a.s.now, ap length w.ensures.1));
      inside = omega arith;
    }

pub returns-in_err-v : goal.returns-in_err-v
returns-in_err-v c = let a = c.args in
    let l = c.loop-b in
    let w = c.within-from in
    let p = part_inside a.s.now w.result _ l.b-index c.loop-b-test.true in
    rw c.from_residual.ensures (record {
      same = fixed_stop a.s.now a.base (w.result + l.b-index) l.v p.1 (part_at a.s.now w.result _ l.b-index c.loop-b-test.true) (a.k - l.b-index) c.in_err-v.ensures (omega arith)
          ∙ l.invariant.1 ∙ ap (fixed a.base a.k 0) w.ensures.1;
      inside = omega arith;
    })

pub overflow_mul-v : goal.overflow_mul-v
overflow_mul-v c = let a = c.args in
    let l = c.loop-b in
    let p = part_inside a.s.now c.within-from.result _ l.b-index c.loop-b-test.true in
    let r = room_turn l.v 0 a.base (a.k - l.b-index) (2 ^ 64) c.requires.0 (omega arith) l.invariant.0 in
    omega (arith, room_small (l.v * a.base + 0) a.base (a.k - l.b-index - 1) (2 ^ 64) c.requires.0 r)

pub overflow_add-v : goal.overflow_add-v
overflow_add-v c = let a = c.args in
    let l = c.loop-b in
    let p = part_inside a.s.now c.within-from.result _ l.b-index c.loop-b-test.true in
    let d = digit_is a.base _ _ c.in_ok-v.ensures in
    let r = room_turn l.v c.in_ok-v.field-0 a.base (a.k - l.b-index) (2 ^ 64) (omega arith) (omega arith) l.invariant.0 in
    omega (arith, room_small (l.v * a.base + c.in_ok-v.field-0) a.base (a.k - l.b-index - 1) (2 ^ 64) c.requires.0 r)

pub loop-b-preserved : goal.loop-b-preserved
loop-b-preserved c = let a = c.args in
    let l = c.loop-b in
    let w = c.within-from in
    let i = w.result + l.b-index in
    let p = part_inside a.s.now w.result _ l.b-index c.loop-b-test.true in
    let d = digit_is a.base _ _ c.in_ok-v.ensures in
    let e : a.k - (l.b-index + 1) ≡ a.k - l.b-index - 1 = omega arith in
    let f : w.result + (l.b-index + 1) ≡ i + 1 = omega arith in
    rw (e, f) (
      room_turn l.v c.in_ok-v.field-0 a.base (a.k - l.b-index) (2 ^ 64) (omega arith) (omega arith) l.invariant.0,
      fixed_turn a.s.now a.base i l.v p.1 (part_at a.s.now w.result _ l.b-index c.loop-b-test.true) (a.k - l.b-index) c.in_ok-v.ensures (omega arith) ∙ l.invariant.1,
    )
