-- `rules::lists::is_silenced` meets its contract. Assumes nothing.
use mathlib.Core.Path.{◌∙◌}
use Prim.Native.Nat.{◌/◌}
use native.Mathlib.Nat.{sub-zero}
use lib.ListN.{length}
use Rattle.rules.proofs.Walk.{left_none}
use Rattle.rules.proofs.Stores.{turn_silenced, none_silenced}
use Rattle.rules.proofs.lists.is_silenced.Goals as goal

pub loop-i-init : goal.loop-i-init
loop-i-init c = rw sub-zero

pub loop-i-preserved : goal.loop-i-preserved
loop-i-preserved c =
    let l = c.loop-i in
    let a = c.args in
    turn_silenced a.rules.now l.i _ c.loop-i-test.true _ c.rule_at.ensures a.year a.name l.found _ _ l.invariant c.overrides_it-found.ensures

pub returns : goal.returns
returns c =
    let l = c.loop-i in
    let a = c.args in
    let xs = a.rules.now in
    none_silenced l.found a.year a.name ∙ rw (left_none xs l.i (length xs / 8) c.loop-i-test.false) at l.invariant
