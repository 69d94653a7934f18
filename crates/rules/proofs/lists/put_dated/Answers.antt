-- `rules::lists::put_dated` meets its contract. The invariant: what is left to store comes to the same. Assumes nothing.
use mathlib.Core.Path.{refl, ◌∙◌}
use Prim.Native.Nat.{◌/◌}
use native.Mathlib.Nat.{sub-zero}
use native.Mathlib.Omega.{arith}
use lib.ListN.{length}
use Rattle.rules.specs.Resolved.{falls}
use Rattle.rules.proofs.Walk.{left_none}
use Rattle.rules.proofs.Stores.{turn_picked, none_picked}
use Rattle.rules.proofs.lists.put_dated.Goals as goal

pub loop-i-init : goal.loop-i-init
loop-i-init c = (refl, omega arith, rw sub-zero)

pub loop-i-preserved : goal.loop-i-preserved
loop-i-preserved c =
    let l = c.loop-i in
    let a = c.args in (
      c.keep_pair-t.auto.buf ∙ l.invariant.0,
      omega (arith, c.keep_pair-t.ensures.n_bound, l.invariant.1),
      turn_picked a.rules.now l.i _ c.loop-i-test.true _ c.rule_at-r.ensures (falls a.k a.day) (l.buf, l.t) _ _ _ c.falls_on.ensures c.keep_pair-t.ensures.result_after l.invariant.2,
    )

pub shape_of-buf : goal.shape_of-buf
shape_of-buf c = c.loop-i.invariant.0

pub returns : goal.returns
returns c =
    let l = c.loop-i in
    let a = c.args in
    let xs = a.rules.now in
    record { result_after = none_picked _ (falls a.k a.day) ∙ rw (left_none xs l.i (length xs / 8) c.loop-i-test.false) at l.invariant.2; n_bound = omega arith }
