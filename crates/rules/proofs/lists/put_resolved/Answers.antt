-- `rules::lists::put_resolved` meets its contract. The invariant: what is left to store comes to the same, and so do the places. Assumes nothing.
use mathlib.Core.Path.{refl, ◌∙◌}
use Prim.Native.Nat.{◌/◌}
use native.Mathlib.Nat.{sub-zero, zero-add}
use native.Mathlib.Omega.{arith}
use lib.ListN.{length}
use Rattle.rules.specs.Rules.{rules_of}
use Rattle.rules.proofs.Walk.{left_none, count_turn, count-skip}
use Rattle.rules.proofs.Stores.{skip-used, turn-used, none_used}
use Rattle.rules.proofs.lists.put_resolved.Goals as goal

pub loop-i-init : goal.loop-i-init
loop-i-init c = (refl, omega arith, rw (sub-zero, zero-add), rw sub-zero)

pub loop-i-preserved-then-r-ne3 : goal.loop-i-preserved-then-r-ne3
loop-i-preserved-then-r-ne3 c =
    let l = c.loop-i in
    let a = c.args in
    let xs = a.rules.now in
    let h = c.loop-i-test.true in
    let r = c.rule_at-r.result in
    let er = c.rule_at-r.ensures in (
      l.invariant.0,
      omega (arith, l.invariant.1),
      count-skip xs l.i _ h r er 3 l.j _ l.invariant.2 c.if-r-ne3.true,
      skip-used xs l.i _ h r er (rules_of xs) a.year _ a.n l.j (l.buf, l.t) _ c.if-r-ne3.true l.invariant.3,
    )

pub offset_bounds-entries-j : goal.offset_bounds-entries-j
offset_bounds-entries-j c =
    let l = c.loop-i in
    let p = count_turn c.args.rules.now l.i _ c.loop-i-test.true _ c.rule_at-r.ensures 3 l.j _ l.invariant.2 c.if-r-ne3.false in
    omega (arith, p, c.requires.rules_bound)

pub bounds-entries-j : goal.bounds-entries-j
bounds-entries-j c =
    let l = c.loop-i in
    let p = count_turn c.args.rules.now l.i _ c.loop-i-test.true _ c.rule_at-r.ensures 3 l.j _ l.invariant.2 c.if-r-ne3.false in
    omega (arith, p, c.requires.rules_bound)

pub loop-i-preserved : goal.loop-i-preserved
loop-i-preserved c =
    let l = c.loop-i in
    let a = c.args in
    let xs = a.rules.now in
    let h = c.loop-i-test.true in
    let r = c.rule_at-r.result in
    let er = c.rule_at-r.ensures in (
      c.keep_pair-t.auto.buf ∙ l.invariant.0,
      omega (arith, c.keep_pair-t.ensures.n_bound, l.invariant.1),
      count_turn xs l.i _ h r er 3 l.j _ l.invariant.2 c.if-r-ne3.false,
      turn-used xs l.i _ h r er (rules_of xs) a.year _ a.n l.j (l.buf, l.t) _ c.if-r-ne3.false _ _ c.shows_on.ensures c.keep_pair-t.ensures.result_after l.invariant.3,
    )

pub shape_of-buf : goal.shape_of-buf
shape_of-buf c = c.loop-i.invariant.0

pub returns : goal.returns
returns c =
    let l = c.loop-i in
    let a = c.args in
    let xs = a.rules.now in
    record { result_after = none_used _ (rules_of xs) a.year _ a.n l.j ∙ (rw (left_none xs l.i (length xs / 8) c.loop-i-test.false) at l.invariant.3); n_bound = omega arith }
