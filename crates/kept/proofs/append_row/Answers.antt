-- `kept::append_row` meets its contract. Assumes nothing.
use Rattle.std.specs.Prelude.{Ok, Err}
use mathlib.Core.Path.{◌≡◌, refl, sym, ap, ◌∙◌}
use mathlib.Core.Logic.{⊎_elim}
use Prim.Native.Nat.{◌+◌}
use native.Mathlib.Omega.{arith}
use lib.ListN.{length}
use Rattle.paper.specs.declared.Refusal.TheVariants.{BadTable}
use Rattle.conversion.specs.Flat.{accepted, flat}
use Rattle.rules.proofs.Lent.{accepted_both}
use Rattle.kept.specs.declared.Kept.{Kept}
use Rattle.kept.specs.Held.{held}
use Rattle.kept.specs.Inner.{HoldsAnswer, appending}
use Rattle.kept.specs.Operations.{append_row}
use Rattle.kept.proofs.Records.{grown, holds_row}
use Rattle.kept.proofs.Goods.{good_row}
use Rattle.kept.proofs.Outcomes.{done_as, same_refusal, other_length, no_place, row_taken, not_appended}
use Rattle.kept.proofs.append_row.Goals as goal

pub returns-then-row-ne13 : goal.returns-then-row-ne13
unfolding append_row appending
returns-then-row-ne13 c = λ w.
    let k = c.args.state in
    let row = c.args.row.now in
    done_as k w (Err BadTable) (appending (held k) row)
    (same_refusal refl
    (⊎_elim (other_length (held k) row) (λ b. no_place (held k) row b.0 (omega (arith, ap length c.front-before.ensures, b.1))) c.then-row-ne13.either))

-- past the test the table with the row is accepted, and so are the rules
pub renewed-store-requires : goal.renewed-store-requires
renewed-store-requires c = accepted_both (flat c.args.state.table c.front-longer.result.now) _ c.in-Ok.ensures

-- what is tested is the table with the row
pub returns-in-Err : goal.returns-in-Err
unfolding append_row appending
returns-in-Err c = λ w.
    let k = c.args.state in
    let row = c.args.row.now in
    let longer = grown k w _ row _ c.front-before.ensures c.if-row-ne13.false c.with_row-rows.ensures _ c.front-longer.ensures in
    done_as k w (Err _) (appending (held k) row)
    (same_refusal refl (not_appended (held k) row c.if-row-ne13.false w.good.rules _ _ longer c.front-rules.ensures _ c.in-Err.ensures))

pub returns-in-Ok : goal.returns-in-Ok
unfolding append_row appending
returns-in-Ok c = λ w.
    let k = c.args.state in
    let row = c.args.row.now in
    let m : Kept =
    record {
      table = k.table;
      rows = c.with_row-rows.result;
      row_len = length c.front-before.result.now + 13;
      rules = k.rules;
      rule_len = k.rule_len;
      store = c.renewed-store.result;
    } in
    let longer = grown k w _ row _ c.front-before.ensures c.if-row-ne13.false c.with_row-rows.ensures _ c.front-longer.ensures in
    let h = ap (accepted k.table) (sym longer) ∙ (accepted_both (flat k.table c.front-longer.result.now) _ c.in-Ok.ensures).0 in
    let q : HoldsAnswer (Ok m) (appending (held k) row) =
    rw (row_taken (held k) row c.if-row-ne13.false h)
    (holds_row k w _ row _ c.front-before.ensures c.if-row-ne13.false c.with_row-rows.ensures _ _ _ c.front-longer.ensures c.front-rules.ensures (good_row (held k) w.good row h) c.renewed-store.ensures) in
    done_as k w (Ok m) (appending (held k) row) q
