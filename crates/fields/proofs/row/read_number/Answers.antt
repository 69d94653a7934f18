-- `fields::row::read_number` meets its contract. Assumes nothing.
use native.Mathlib.Omega.{arith}
use mathlib.Core.Path.{sym, ap, ◌∙◌}
use lib.ListN.{drop}
use Rattle.text.specs.Digits.{got}
use Rattle.fields.proofs.Rows.{number_none, number-glued, number-whole}
use Rattle.fields.proofs.row.read_number.Goals as goal

pub returns-in_err-n : goal.returns-in_err-n
returns-in_err-n c = let a = c.args in
    rw c.from_residual.ensures (record { same = number_none (drop a.at a.s.now) (sym c.in_err-n.ensures.same); inside = omega arith })

pub returns-then-not-word_ends : goal.returns-then-not-word_ends
returns-then-not-word_ends c = let a = c.args in
    record {
      same = number-glued (drop a.at a.s.now) (sym c.in_ok-n.ensures.same) (sym c.word_ends.ensures ∙ c.if-not-word_ends.true);
      inside = omega arith;
    }

pub returns : goal.returns
returns c = let a = c.args in
    let p = c.past_spaces-at.ensures in
    record {
      same = ap (got c.in_ok-n.n) p.1 ∙ number-whole (drop a.at a.s.now) (sym c.in_ok-n.ensures.same) (sym c.word_ends.ensures ∙ c.if-not-word_ends.false);
      inside = p.0;
    }
