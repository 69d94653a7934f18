-- `faults::lines::number_reason` meets its contract. Assumes nothing.
use Rattle.std.proofs.Common.{◌≡◌, None, rules}
use Rattle.text.proofs.Said.{number_said, number_unsaid}
use Rattle.faults.specs.Lines.{number_reason}
use Rattle.faults.proofs.lines.number_reason.Goals as goal

pub returns-in-Some : goal.returns-in-Some
unfolding number_reason
returns-in-Some c = rw (number_said c.decimal.result c.decimal.ensures c.in-Some.is, ← c.at_end.ensures) c.then_some.ensures

pub returns-then-stands : goal.returns-then-stands
unfolding number_reason
returns-then-stands c =
    rw (number_unsaid c.decimal.result c.decimal.ensures c.in_default.is, ← c.stands.ensures, c.if-stands.true)

pub returns-in_err-wide : goal.returns-in_err-wide
unfolding number_reason
returns-in_err-wide c =
    let e : c.from_residual.result ≡ None = search rules in
    rw (
      e,
      number_unsaid c.decimal.result c.decimal.ensures c.in_default.is,
      ← c.stands.ensures,
      c.if-stands.false,
      number_unsaid c.wide.result c.wide.ensures c.in_err-wide.was,
    )

pub returns : goal.returns
unfolding number_reason
returns c =
    rw (
      number_unsaid c.decimal.result c.decimal.ensures c.in_default.is,
      ← c.stands.ensures,
      c.if-stands.false,
      number_said c.wide.result c.wide.ensures c.in_ok-wide.was,
    )
