-- `naming::finding::find` meets its contract: the text is still to come. Assumes nothing.
use Rattle.std.specs.Prelude.{Some}
use native.Mathlib.Omega.{arith}
use Prim.Native.Nat.{◌-◌}
use mathlib.Core.Path.{refl, sym, ap, ◌∙◌}
use lib.ListN.{drop, length-take}
use Rattle.naming.proofs.Splits.{line_at, line_at_law}
use Rattle.naming.proofs.Searches.{find_over, find_turn, find_here, find_place, begins_none, begins_at, begins_inside}
use Rattle.naming.proofs.finding.find.Goals as goal

pub slice_bounds-text_in-end : goal.slice_bounds-text_in-end
slice_bounds-text_in-end c = let l = c.loop-at in
    let e = c.line_end-end in
    let r = line_at_law c.args.file.now l.at e.result (omega arith) e.ensures in
    omega arith

pub loop-at-preserved : goal.loop-at-preserved
loop-at-preserved c = let a = c.args in
    let l = c.loop-at in
    let e = c.line_end-end in
    let t = c.text_in in
    find_turn a.file.now a.number l.at e.result (omega arith) e.ensures (begins_none t.result t.ensures c.in_default.is) ∙ l.invariant

pub returns-in-Some : goal.returns-in-Some
returns-in-Some c = let a = c.args in
    let t = c.text_in in
    let i = begins_inside t.result t.ensures c.in-Some.is in
    let l = c.loop-at in
    let e = c.line_end-end in
    let r = line_at_law c.args.file.now l.at e.result (omega arith) e.ensures in
    record {
      same = ap Some (find_place a.file.now a.number l.at e.result (omega arith) e.ensures c.in-Some.k i)
          ∙ find_here a.file.now a.number l.at e.result (omega arith) e.ensures (drop c.in-Some.k (line_at a.file.now l.at e.result)) (begins_at t.result t.ensures c.in-Some.is) ∙ l.invariant;
      inside = (omega (arith, length-take (e.result - l.at) (drop l.at a.file.now)), omega arith);
    }

pub returns : goal.returns
returns c = let a = c.args in
    record { same = sym (find_over a.file.now a.number c.loop-at.at c.loop-at-test.false) ∙ c.loop-at.invariant; inside = tt }
