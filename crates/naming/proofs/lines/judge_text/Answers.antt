-- `naming::lines::judge_text` meets its contract. Assumes nothing.
use Rattle.std.specs.Prelude.{Option}
use Prim.Native.Nat.{ℕ}
use mathlib.Core.Path.{sym, ap, ◌∙◌}
use Rattle.naming.specs.Names.{cleared, line_of}
use Rattle.naming.proofs.Judges.{ends_length, text_empty, text_other, text_cleared}
use Rattle.naming.proofs.lines.judge_text.Goals as goal

pub returns-then-is_empty : goal.returns-then-is_empty
returns-then-is_empty c = let a = c.args in
    ap line_of (text_empty a.number a.s.now (ends_length a.s.now ∙ sym c.is_empty.ensures ∙ c.if-is_empty.true))

pub returns-then-not-is_utf8 : goal.returns-then-not-is_utf8
returns-then-not-is_utf8 c = let a = c.args in
    ap line_of (text_other a.number a.s.now (ends_length a.s.now ∙ sym c.is_empty.ensures ∙ c.if-is_empty.false) (sym c.is_utf8.ensures ∙ c.if-not-is_utf8.true))

pub returns-in-Some : goal.returns-in-Some
returns-in-Some c = let a = c.args in
    let s = a.s.now in
    ap (λ (o : Option ℕ). line_of (cleared a.number s o)) c.in-Some.ensures
    ∙ ap line_of (text_cleared a.number s (ends_length s ∙ sym c.is_empty.ensures ∙ c.if-is_empty.false) (sym c.is_utf8.ensures ∙ c.if-not-is_utf8.false))

pub returns-in-None : goal.returns-in-None
returns-in-None c = let a = c.args in
    let s = a.s.now in
    ap (λ (o : Option ℕ). line_of (cleared a.number s o)) c.in-None.ensures
    ∙ ap line_of (text_cleared a.number s (ends_length s ∙ sym c.is_empty.ensures ∙ c.if-is_empty.false) (sym c.is_utf8.ensures ∙ c.if-not-is_utf8.false))
