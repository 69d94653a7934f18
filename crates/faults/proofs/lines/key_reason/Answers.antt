-- `faults::lines::key_reason` meets its contract: the key, and then the sign behind it. Assumes nothing.
use Rattle.std.proofs.Common.{◌≡◌, None, rules}
use Rattle.text.proofs.Said.{passed_said, passed_unsaid}
use Rattle.faults.proofs.Reasons.{key_none, sign_none, key_number}
use Rattle.faults.proofs.lines.key_reason.Goals as goal

pub returns-in_err-sign : goal.returns-in_err-sign
returns-in_err-sign c =
    let e : c.from_residual.result ≡ None = search rules in
    let p = rw (c.key.ensures, c.start.ensures) at c.pass.ensures in
    rw e (key_none c.args.i c.args.s.now (passed_unsaid c.pass.result p c.in_err-sign.was))

pub returns-in_err-digits : goal.returns-in_err-digits
returns-in_err-digits c =
    let e : c.from_residual-in_err-digits.result ≡ None = search rules in
    let p = rw (c.key.ensures, c.start.ensures) at c.pass.ensures in
    rw e (sign_none c.args.i c.args.s.now (passed_said c.pass.result p c.in_ok-sign.was) (passed_unsaid c.pass-2.result c.pass-2.ensures c.in_err-digits.was))

pub returns : goal.returns
returns c =
    let p = rw (c.key.ensures, c.start.ensures) at c.pass.ensures in
    key_number c.args.i c.args.s.now (passed_said c.pass.result p c.in_ok-sign.was)
    (passed_said c.pass-2.result c.pass-2.ensures c.in_ok-digits.was) c.number_reason.ensures
