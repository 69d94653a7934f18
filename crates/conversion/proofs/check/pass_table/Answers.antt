use mathlib.Core.Path.{sym, ap, ◌∙◌}
use native.Mathlib.Omega.{arith}
use Rattle.std.specs.Prelude.{Ok}
use Rattle.paper.specs.declared.Refusal.TheVariants.{BadTable}
use Rattle.paper.proofs.Answers.{passed_on, given_on, given_off}
use Rattle.paper.proofs.Sums.{all_at}
use Rattle.conversion.proofs.Rows.{rows_most}
use Rattle.conversion.proofs.Accepted.{accepted_by, accepted_not, first_small, pass_none, pass_some}
use Rattle.conversion.proofs.check.pass_table.Goals as goal

pub returns-in_err-p : goal.returns-in_err-p
returns-in_err-p c =
    let e = c.in_err-p.ensures in
    let bad = pass_none c.args.table _ _ _ _ _ c.year_count.ensures c.pass.ensures e.ok_part in
    passed_on _ c.from_residual.ensures.1 (rw e.ok_part at e.value ∙ sym (given_off _ BadTable _ bad))

pub overflow_add-start : goal.overflow_add-start
overflow_add-start c =
    let s = pass_some c.args.table _ _ _ _ _ c.year_count.ensures c.pass.ensures _ c.in_ok-p.ensures.ok_part in
    omega (arith, rows_most _ _ s.0, s.1.1, c.requires.first, first_small _ _ c.requires.frame)

pub returns-then-start-p-gt2488070 : goal.returns-then-start-p-gt2488070
returns-then-start-p-gt2488070 c =
    let s = pass_some c.args.table _ _ _ _ _ c.year_count.ensures c.pass.ensures _ c.in_ok-p.ensures.ok_part in
    sym (given_off _ BadTable _ (accepted_not _ _ (λ f. omega (arith, s.1.1, c.requires.first, f.day_to))))

pub returns : goal.returns
returns c =
    let s = pass_some c.args.table _ _ _ _ _ c.year_count.ensures c.pass.ensures _ c.in_ok-p.ensures.ok_part in
    let g = accepted_by c.args.table c.args.rows.now (record {
      frame = c.requires.frame;
      row = all_at _ _ s.0;
      day_to = omega (arith, s.1.1, c.requires.first);
    }) in
    ap Ok s.1.0 ∙ sym (given_on _ BadTable _ g)
