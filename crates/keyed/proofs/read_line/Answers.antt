-- `keyed::read_line` meets its contract: the key, the sign, the number and the line feed are passed one after the other. Assumes nothing.
use native.Mathlib.Omega.{arith}
use mathlib.Core.Path.{sym}
use Rattle.text.proofs.Decimals.{digits_decimal}
use Rattle.keyed.proofs.Lines.{no_key, no-equals, no_number, no_feed, is-line}
use Rattle.keyed.proofs.read_line.Goals as goal

pub returns-in_err-pass : goal.returns-in_err-pass
returns-in_err-pass c =
    rw c.from_residual.ensures (record { same = no_key _ _ (sym c.in_err-pass.ensures.same); inside = omega arith })

pub returns-in_err-digits : goal.returns-in_err-digits
returns-in_err-digits c =
    rw c.from_residual-in_err-digits.ensures (record {
      same = no-equals _ _ (sym c.in_ok-pass.ensures.same) (sym c.in_err-digits.ensures.same);
      inside = omega arith;
    })

pub returns-in_err-n : goal.returns-in_err-n
returns-in_err-n c =
    rw c.from_residual-in_err-n.ensures (record {
      same = no_number _ _ (sym c.in_ok-pass.ensures.same) (sym c.in_ok-digits.ensures.same) (sym c.in_err-n.ensures.same);
      inside = omega arith;
    })

pub returns-in_err-pass-2 : goal.returns-in_err-pass-2
returns-in_err-pass-2 c =
    rw c.from_residual-in_err-pass-2.ensures (record {
      same = no_feed _ _ (sym c.in_ok-pass.ensures.same) (sym c.in_ok-digits.ensures.same) (sym c.in_ok-n.ensures.same) (sym c.in_err-pass-2.ensures.same);
      inside = omega arith;
    })

pub overflow_cast-result : goal.overflow_cast-result
overflow_cast-result c = omega (arith, (digits_decimal 65535 _ _ _ (sym c.in_ok-n.ensures.same)).most)

pub returns : goal.returns
returns c =
    record {
      same = is-line _ _ (sym c.in_ok-pass.ensures.same) (sym c.in_ok-digits.ensures.same) (sym c.in_ok-n.ensures.same) (sym c.in_ok-pass-2.ensures.same);
      inside = c.in_ok-pass-2.ensures.inside;
    }
