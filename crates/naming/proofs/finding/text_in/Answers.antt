-- `naming::finding::text_in` meets its contract. Assumes nothing.
use Rattle.std.specs.Prelude.{None}
use mathlib.Core.Path.{sym}
use Rattle.naming.proofs.Heads.{text_none, text_differs, text_here}
use borrow.Author.Tests.{eq-eqb, ne_eqb}
use Rattle.naming.proofs.finding.text_in.Goals as goal

pub returns-in_err-n : goal.returns-in_err-n
returns-in_err-n c = let a = c.args in
    rw c.from_residual.ensures (record { same = sym (text_none a.number a.s.now None (sym c.in_err-n.ensures.same)); inside = tt })

pub returns-then-n-number : goal.returns-then-n-number
returns-then-n-number c = let a = c.args in
    let o = c.in_ok-n in
    record { same = sym (text_here a.number a.s.now None (sym o.ensures.same) (eq-eqb o.n a.number c.if-n-number.true)); inside = o.ensures.inside }

pub returns-else-n-number : goal.returns-else-n-number
returns-else-n-number c = let a = c.args in
    let o = c.in_ok-n in
    record { same = sym (text_differs a.number a.s.now None (sym o.ensures.same) (ne_eqb o.n a.number c.if-n-number.false)); inside = tt }
