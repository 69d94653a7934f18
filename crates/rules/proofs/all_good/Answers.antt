-- `rules::all_good` meets its contract. The invariant: what was tested and what is left to test come to the same. Assumes nothing.
use mathlib.Core.Path.{sym, ◌∙◌}
use mathlib.Core.Bool.{and-true}
use Prim.Native.Nat.{◌/◌}
use native.Mathlib.Nat.{sub-zero}
use lib.ListN.{length}
use Rattle.rules.proofs.Walk.{left_none, good_none, good_turn}
use Rattle.rules.proofs.all_good.Goals as goal

pub loop-i-init : goal.loop-i-init
loop-i-init c = rw sub-zero

pub loop-i-preserved : goal.loop-i-preserved
loop-i-preserved c =
    let l = c.loop-i in
    let xs = c.args.rules.now in
    good_turn xs l.i _ c.loop-i-test.true _ c.rule_at.ensures l.good _ _ l.invariant c.is_good-good.ensures

pub returns : goal.returns
returns c =
    let l = c.loop-i in
    let xs = c.args.rules.now in
    sym (and-true l.good) ∙ rw (left_none xs l.i (length xs / 8) c.loop-i-test.false, good_none) at l.invariant
