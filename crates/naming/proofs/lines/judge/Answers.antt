-- `naming::lines::judge` meets its contract. Assumes nothing.
use native.Mathlib.Omega.{arith}
use mathlib.Core.Path.{sym, ap, ◌∙◌}
use lib.ListN.{drop}
use Rattle.text.proofs.Said.{number_unsaid}
use Rattle.naming.specs.Names.{line_of}
use Rattle.naming.proofs.Heads.{headed_only}
use Rattle.naming.proofs.Judges.{line_form_law, line-less, line_part}
use Rattle.naming.proofs.lines.judge.Goals as goal

pub returns-in_default : goal.returns-in_default
returns-in_default c = let a = c.args in
    ap line_of (line_form_law a.least a.s.now (number_unsaid c.headed.result c.headed.ensures c.in_default.is))

pub returns-then-n-least : goal.returns-then-n-least
returns-then-n-least c = let a = c.args in
    ap line_of (line-less a.least a.s.now (sym c.in-Some.ensures.same) c.if-n-least.true)

pub overflow_cast-n : goal.overflow_cast-n
overflow_cast-n c = let s = c.args.s.now in
    let o = c.in-Some in
    omega (arith, (headed_only s o.n (drop o.next.at s) (sym o.ensures.same)).most)

pub returns : goal.returns
returns c = let a = c.args in
    let o = c.in-Some in
    c.judge_text.ensures ∙ line_part a.least a.s.now o.n o.next.at (sym o.ensures.same) c.if-n-least.false
