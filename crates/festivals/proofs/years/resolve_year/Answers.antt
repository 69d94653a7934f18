-- `festivals::years::resolve_year` meets its contract. The invariant: what is left to enter comes to the same, and so do the places. Assumes nothing.
use Prim.Native.Nat.{◌<◌}
use native.Mathlib.Omega.{arith}
use Rattle.conversion.specs.Flat.{flat}
use Rattle.rules.proofs.Accepted.{good_rules, good_rule}
use Rattle.festivals.proofs.Entries.{entry_by, entry_dayless, entry_outside, entry_inside, put_none, put_some, entered_first, entered-skip, entered-next, entered_all, place-left}
use Rattle.festivals.proofs.years.resolve_year.Goals as goal

pub loop-i-init : goal.loop-i-init
loop-i-init c = entered_first _ _ _ _ _

pub loop-i-preserved-then-r-ne3 : goal.loop-i-preserved-then-r-ne3
loop-i-preserved-then-r-ne3 c =
    entered-skip _ _ _ _ _ _ c.loop-i-test.true _ c.rule_at-r.ensures _ _ c.loop-i.invariant c.if-r-ne3.true

pub overflow_add-j : goal.overflow_add-j
overflow_add-j c =
    let room : c.loop-i.j < 64 = place-left _ _ _ _ _ _ c.loop-i-test.true _ c.rule_at-r.ensures _ _ c.loop-i.invariant c.if-r-ne3.false (good_rules c.args.rules.now c.requires.1).counts.computed_few in
    omega (arith, room)

pub rule_day-requires : goal.rule_day-requires
rule_day-requires c =
    (good_rule c.args.rules.now c.loop-i.i c.rule_at-r.result c.requires.1 c.loop-i-test.true c.rule_at-r.ensures, c.if-r-ne3.false)

pub loop-i-preserved-in_default : goal.loop-i-preserved-in_default
loop-i-preserved-in_default c =
    let a = c.args in
    let good = good_rule a.rules.now c.loop-i.i c.rule_at-r.result c.requires.1 c.loop-i-test.true c.rule_at-r.ensures in
    let met = entry_by _ (flat a.table a.rows.now) a.year c.rule_at-r.result _ _ good c.if-r-ne3.false c.lunar_months-months.ensures (entry_dayless _ _ c.in_default.ensures) in
    entered-next _ _ _ _ _ _ c.loop-i-test.true _ c.rule_at-r.ensures _ _ c.loop-i.invariant c.if-r-ne3.false _ (put_none _ _ _ met)

pub loop-i-preserved-in_default-place : goal.loop-i-preserved-in_default-place
loop-i-preserved-in_default-place c =
    let a = c.args in
    let good = good_rule a.rules.now c.loop-i.i c.rule_at-r.result c.requires.1 c.loop-i-test.true c.rule_at-r.ensures in
    let met = entry_by _ (flat a.table a.rows.now) a.year c.rule_at-r.result _ _ good c.if-r-ne3.false c.lunar_months-months.ensures (entry_outside _ _ _ c.in-Some.ensures c.in_default-place.ensures) in
    entered-next _ _ _ _ _ _ c.loop-i-test.true _ c.rule_at-r.ensures _ _ c.loop-i.invariant c.if-r-ne3.false _ (put_none _ _ _ met)

pub offset_bounds-out-at : goal.offset_bounds-out-at
offset_bounds-out-at c =
    let room : c.loop-i.j < 64 = place-left _ _ _ _ _ _ c.loop-i-test.true _ c.rule_at-r.ensures _ _ c.loop-i.invariant c.if-r-ne3.false (good_rules c.args.rules.now c.requires.1).counts.computed_few in
    omega (arith, room)

pub bounds-out-at : goal.bounds-out-at
bounds-out-at c =
    let room : c.loop-i.j < 64 = place-left _ _ _ _ _ _ c.loop-i-test.true _ c.rule_at-r.ensures _ _ c.loop-i.invariant c.if-r-ne3.false (good_rules c.args.rules.now c.requires.1).counts.computed_few in
    omega (arith, room)

pub loop-i-preserved : goal.loop-i-preserved
loop-i-preserved c =
    let a = c.args in
    let good = good_rule a.rules.now c.loop-i.i c.rule_at-r.result c.requires.1 c.loop-i-test.true c.rule_at-r.ensures in
    let met = entry_by _ (flat a.table a.rows.now) a.year c.rule_at-r.result _ _ good c.if-r-ne3.false c.lunar_months-months.ensures (entry_inside _ _ _ c.in-Some.ensures c.in-Ok.ensures) in
    entered-next _ _ _ _ _ _ c.loop-i-test.true _ c.rule_at-r.ensures _ _ c.loop-i.invariant c.if-r-ne3.false _ (put_some _ _ _ _ met)

pub returns : goal.returns
returns c = let l = c.loop-i in entered_all _ _ _ _ _ l.i l.out.days l.j c.loop-i-test.false l.invariant
