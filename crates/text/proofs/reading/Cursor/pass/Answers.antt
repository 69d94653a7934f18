-- `text::reading::Cursor::pass` meets its contract. Assumes nothing.
use native.Mathlib.Omega.{arith}
use mathlib.Core.Bool.{true, false}
use Prim.Native.Nat.{◌-◌}
use borrow.Author.Rules.{rules}
use lib.ListN.{length, drop, length-drop}
use Rattle.std.proofs.lemmas.List.{length-take}
use Rattle.text.proofs.Texts.{past_from}
use Rattle.text.proofs.reading.Cursor.pass.Goals as goal

pub returns-then-starts_with : goal.returns-then-starts_with
returns-then-starts_with c = let a = c.args in
    let w = c.within-from in
    let b = c.if-starts_with.ensures.bound (search rules) in
    let l = length-take (length a.s.now - w.result) (drop w.result a.s.now) in
    let m = length-drop w.result a.s.now in
    record { same = past_from a.text.now a.s.now w.result a.self.at true w.ensures.1 c.if-starts_with.ensures.value; inside = omega arith }

pub returns-else-starts_with : goal.returns-else-starts_with
returns-else-starts_with c = let a = c.args in
    let w = c.within-from in
    record { same = past_from a.text.now a.s.now w.result a.self.at false w.ensures.1 c.if-starts_with.ensures.value; inside = omega arith }
