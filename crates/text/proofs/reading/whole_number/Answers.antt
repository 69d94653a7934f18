-- `text::reading::whole_number` meets its contract. Assumes nothing.
use mathlib.Core.Path.{sym, ◌∙◌}
use native.Mathlib.Omega.{arith}
use lib.ListN.{drop}
use Rattle.text.proofs.Decimals.{digits_decimal}
use Rattle.text.proofs.Wholes.{whole_none, whole-more, whole-all}
use Rattle.text.proofs.reading.whole_number.Goals as goal

pub returns-in_err-n : goal.returns-in_err-n
returns-in_err-n c =
    c.from_residual.ensures ∙ whole_none _ c.args.s.now c.start.result.at c.start.ensures (sym c.in_err-n.ensures.same)

pub overflow_cast-result : goal.overflow_cast-result
overflow_cast-result c =
    let s = c.args.s.now in
    omega (arith, (digits_decimal c.args.limit (drop c.start.result.at s) c.in_ok-n.n (drop c.in_ok-n.next.at s) (sym c.in_ok-n.ensures.same)).most)

pub returns-then-at_end : goal.returns-then-at_end
returns-then-at_end c =
    whole-all _ c.args.s.now c.start.result.at c.start.ensures (sym c.in_ok-n.ensures.same) (sym c.at_end.ensures ∙ c.if-at_end.true)

pub returns-else-at_end : goal.returns-else-at_end
returns-else-at_end c =
    whole-more _ c.args.s.now c.start.result.at c.start.ensures (sym c.in_ok-n.ensures.same) (sym c.at_end.ensures ∙ c.if-at_end.false)
