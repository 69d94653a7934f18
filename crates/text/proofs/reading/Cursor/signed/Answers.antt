-- `text::reading::Cursor::signed` meets its contract. Assumes nothing.
use Prim.Native.Nat.{◌+◌, ◌-◌, ◌≤◌}
use mathlib.Core.Path.{sym, ◌∙◌}
use native.Mathlib.Omega.{arith}
use lib.IntN.{pos, negsuc}
use lib.ListN.{drop}
use mir.Syntax.{w32}
use mir.ValLaws.{to_z-of_z}
use Rattle.text.proofs.Decimals.{digits_decimal}
use Rattle.text.proofs.Signs.{signed_plain, behind_minus, above_said, below_said, below_nought, no_number, word_fits}
use Rattle.text.proofs.reading.Cursor.signed.Goals as goal

pub returns-in_err-n : goal.returns-in_err-n
returns-in_err-n c = let a = c.args in
    rw c.from_residual.ensures (record {
      same = (no_number (sym c.in_err-n.ensures.same)).1 ∙ behind_minus a.s.now a.self.at (sym c.stands.ensures ∙ c.if-stands.true);
      inside = omega arith;
    })

pub returns-then-n-eq0 : goal.returns-then-n-eq0
returns-then-n-eq0 c = let a = c.args in
    record {
      same = below_nought (sym c.in_ok-n.ensures.same) c.if-n-eq0.true ∙ behind_minus a.s.now a.self.at (sym c.stands.ensures ∙ c.if-stands.true);
      inside = omega arith;
    }

pub below_zero-requires : goal.below_zero-requires
below_zero-requires c = let a = c.args in
    omega (arith, (digits_decimal 2147483648 (drop (a.self.at + 1) a.s.now) c.in_ok-n.n _ (sym c.in_ok-n.ensures.same)).most)

pub returns-then-stands : goal.returns-then-stands
returns-then-stands c = let a = c.args in
    let n = c.in_ok-n.n in
    let e = sym c.in_ok-n.ensures.same in
    let m = (digits_decimal 2147483648 (drop (a.self.at + 1) a.s.now) n _ e).most in
    let w : n - 1 ≤ 2147483647 = omega arith in
    record {
      same = rw (c.below_zero.ensures, to_z-of_z w32 (negsuc (n - 1)) (word_fits (negsuc (n - 1)) w))
          (below_said e c.if-n-eq0.false ∙ behind_minus a.s.now a.self.at (sym c.stands.ensures ∙ c.if-stands.true));
      inside = c.in_ok-n.ensures.inside;
    }

pub returns-in_err-n-2 : goal.returns-in_err-n-2
returns-in_err-n-2 c = let a = c.args in
    rw c.from_residual-in_err-n-2.ensures (record {
      same = (no_number (sym c.in_err-n-2.ensures.same)).0 ∙ sym (signed_plain (drop a.self.at a.s.now) (sym c.stands.ensures ∙ c.if-stands.false));
      inside = omega arith;
    })

pub from_zero-requires : goal.from_zero-requires
from_zero-requires c = let a = c.args in
    (digits_decimal 2147483647 (drop a.self.at a.s.now) c.in_ok-n-2.n _ (sym c.in_ok-n-2.ensures.same)).most

pub returns : goal.returns
returns c = let a = c.args in
    let x = drop a.self.at a.s.now in
    let n = c.in_ok-n-2.n in
    let e = sym c.in_ok-n-2.ensures.same in
    let m = (digits_decimal 2147483647 x n _ e).most in
    record {
      same = rw (c.from_zero.ensures, to_z-of_z w32 (pos n) (word_fits (pos n) m)) (above_said e ∙ sym (signed_plain x (sym c.stands.ensures ∙ c.if-stands.false)));
      inside = c.in_ok-n-2.ensures.inside;
    }
