-- `convert::line::read_line` meets its contract. Assumes nothing.
use mathlib.Core.Path.{sym, ap, ◌∙◌}
use Rattle.text.proofs.Said.{passed_said, passed_unsaid}
use Rattle.convert.specs.Lines.{as_bs, as_ad}
use Rattle.convert.proofs.Forms.{form_bs, form-ad, form-other}
use Rattle.convert.proofs.line.read_line.Goals as goal

pub returns-in_err-y : goal.returns-in_err-y
returns-in_err-y c = let s = c.args.s.now in
    c.from_residual.ensures ∙ ap as_bs (sym c.in_err-y.was ∙ c.dashed.ensures)
    ∙ form_bs s (rw c.start.ensures at (passed_said c.pass.result c.pass.ensures c.in-Some.is))

pub returns-in-Some : goal.returns-in-Some
returns-in-Some c = let s = c.args.s.now in
    ap as_bs (sym c.in_ok-y.was ∙ c.dashed.ensures) ∙ form_bs s (rw c.start.ensures at (passed_said c.pass.result c.pass.ensures c.in-Some.is))

pub returns-in_err-c : goal.returns-in_err-c
returns-in_err-c c = let s = c.args.s.now in
    c.from_residual-in_err-c.ensures
    ∙ form-other s (rw c.start.ensures at (passed_unsaid c.pass.result c.pass.ensures c.in_default.is))
    (rw c.start-2.ensures at (passed_unsaid c.pass-2.result c.pass-2.ensures c.in_err-c.was))

pub returns-in_err-y-2 : goal.returns-in_err-y-2
returns-in_err-y-2 c = let s = c.args.s.now in
    c.from_residual-in_err-y-2.ensures ∙ ap as_ad (sym c.in_err-y-2.was ∙ c.dashed-2.ensures)
    ∙ form-ad s (rw c.start.ensures at (passed_unsaid c.pass.result c.pass.ensures c.in_default.is))
    (rw c.start-2.ensures at (passed_said c.pass-2.result c.pass-2.ensures c.in_ok-c.was))

pub returns : goal.returns
returns c = let s = c.args.s.now in
    ap as_ad (sym c.in_ok-y-2.was ∙ c.dashed-2.ensures)
    ∙ form-ad s (rw c.start.ensures at (passed_unsaid c.pass.result c.pass.ensures c.in_default.is))
    (rw c.start-2.ensures at (passed_said c.pass-2.result c.pass-2.ensures c.in_ok-c.was))
