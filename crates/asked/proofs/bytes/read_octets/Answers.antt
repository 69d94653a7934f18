-- The bytes so far, and those to come. Assumes nothing.
use Prim.Native.Nat.{◌-◌}
use mathlib.Core.Path.{refl, ◌∙◌}
use native.Mathlib.Omega.{arith}
use lib.ListN.{length-set}
use Rattle.text.proofs.Said.{number_said, number_unsaid}
use Rattle.asked.proofs.HeldOctets.{left_first, left_over, left-full, left-bad, left_turn, value_small}
use Rattle.asked.proofs.bytes.read_octets.Goals as goal

pub loop-at-init : goal.loop-at-init
loop-at-init c = (omega arith, refl, refl)

pub returns-then-count-eq64 : goal.returns-then-count-eq64
returns-then-count-eq64 c = let l = c.loop-at in
    let a = c.args in
    c.no_octets.ensures ∙ left-full a.s.now l.at l.count l.bytes c.loop-at-test.true c.if-count-eq64.true ∙ l.invariant.2 ∙ left_first a.s.now a.c.at

pub returns-in_default : goal.returns-in_default
returns-in_default c = let l = c.loop-at in
    let a = c.args in
    c.no_octets-in_default.ensures ∙ left-bad a.s.now l.at l.count l.bytes c.loop-at-test.true (omega (arith, l.invariant.0, c.if-count-eq64.false))
    (number_unsaid c.octet_at.result c.octet_at.ensures.says c.in_default.is) ∙ l.invariant.2 ∙ left_first a.s.now a.c.at

pub overflow_cast-bytes : goal.overflow_cast-bytes
overflow_cast-bytes c = omega (arith, value_small c.octet_at.result c.octet_at.ensures.result_bound c.in-Some.is)

pub loop-at-preserved : goal.loop-at-preserved
loop-at-preserved c = let l = c.loop-at in
    let a = c.args in
    let b = c.in-Some in (
      omega (arith, l.invariant.0, c.if-count-eq64.false),
      simp length-set l.invariant.1,
      left_turn a.s.now l.at l.count l.bytes c.loop-at-test.true (omega (arith, l.invariant.0, c.if-count-eq64.false)) b.b b.next.at
          (number_said c.octet_at.result c.octet_at.ensures.says b.is) ∙ l.invariant.2,
    )

pub returns : goal.returns
returns c = let l = c.loop-at in
    let a = c.args in
    left_over a.s.now l.at l.count l.bytes c.loop-at-test.false ∙ l.invariant.2 ∙ left_first a.s.now a.c.at
