-- `fields::comments::year_said` meets its contract. Assumes nothing.
use native.Mathlib.Omega.{arith}
use mathlib.Core.Path.{sym, ◌∙◌}
use lib.ListN.{drop}
use Rattle.text.proofs.Ways.{wide_only}
use Rattle.fields.proofs.Said.{year_none, year-more, year-all}
use Rattle.fields.proofs.comments.year_said.Goals as goal

pub returns-in_err-n : goal.returns-in_err-n
returns-in_err-n c = c.from_residual.ensures ∙ year_none c.args.s.now c.comment_at-from.ensures.1 (sym c.in_err-n.ensures.same)

pub returns-then-end-s : goal.returns-then-end-s
returns-then-end-s c = let o = c.in_ok-n in
    let p = c.past_spaces-end in
    year-more c.args.s.now c.comment_at-from.ensures.1 o.n o.next.at p.result (sym o.ensures.same) p.ensures.1 c.if-end-s.true

pub overflow_cast-result : goal.overflow_cast-result
overflow_cast-result c =
    let s = c.args.s.now in
    let o = c.in_ok-n in
    omega (arith, (wide_only 4 (omega arith) (drop c.comment_at-from.result s) o.n (drop o.next.at s) (sym o.ensures.same)).0)

pub returns-else-end-s : goal.returns-else-end-s
returns-else-end-s c = let o = c.in_ok-n in
    let p = c.past_spaces-end in
    year-all c.args.s.now c.comment_at-from.ensures.1 o.n o.next.at p.result (sym o.ensures.same) p.ensures.1 c.if-end-s.false
