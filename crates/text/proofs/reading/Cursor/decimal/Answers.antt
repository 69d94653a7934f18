-- `text::reading::Cursor::decimal` meets its contract. Assumes nothing.
use mathlib.Core.Path.{sym, ap, ◌∙◌}
use native.Mathlib.Omega.{arith}
use lib.ListN.{drop}
use lib.Seq.{drop-drop}
use Rattle.text.specs.Digits.{starts_digit, got}
use Rattle.text.proofs.Texts.{stands_inside}
use Rattle.text.proofs.Decimals.{decimal_led, decimal_nought, decimal_scan, decimal_other}
use Rattle.text.proofs.reading.Cursor.decimal.Goals as goal

pub returns-then-stands_digit : goal.returns-then-stands_digit
returns-then-stands_digit c = let a = c.args in
    let s = a.s.now in
    let at = a.self.at in
    record {
      same = sym (decimal_led a.limit (drop at s) (sym c.stands.ensures ∙ c.if-stands.true) (ap starts_digit (drop-drop 1 at s) ∙ sym c.stands_digit.ensures ∙ c.if-stands_digit.true));
      inside = omega arith;
    }

pub returns-then-stands : goal.returns-then-stands
returns-then-stands c = let a = c.args in
    let s = a.s.now in
    let at = a.self.at in
    let z = sym c.stands.ensures ∙ c.if-stands.true in
    record {
      same = ap (got 0) (sym (drop-drop 1 at s)) ∙ sym (decimal_nought a.limit (drop at s) z (ap starts_digit (drop-drop 1 at s) ∙ sym c.stands_digit.ensures ∙ c.if-stands_digit.false));
      inside = omega (arith, stands_inside 48 s at z);
    }

pub returns-then-stands_digit-2 : goal.returns-then-stands_digit-2
returns-then-stands_digit-2 c = let a = c.args in
    let s = a.s.now in
    let at = a.self.at in
    record {
      same = c.read_all.ensures.same ∙ sym (decimal_scan a.limit (drop at s) (sym c.stands.ensures ∙ c.if-stands.false) (sym c.stands_digit-2.ensures ∙ c.if-stands_digit-2.true));
      inside = c.read_all.ensures.inside;
    }

pub returns : goal.returns
returns c = let a = c.args in
    record {
      same = sym (decimal_other a.limit (drop a.self.at a.s.now) (sym c.stands.ensures ∙ c.if-stands.false) (sym c.stands_digit-2.ensures ∙ c.if-stands_digit-2.false));
      inside = omega arith;
    }
