use Rattle.std.proofs.Common.{sym, eq-eqb, ne_eqb}
use Rattle.gregorian.specs.Calendar.{month_length}
use Rattle.gregorian.proofs.Months.{no_month}
use Rattle.gregorian.proofs.month_length.Goals as goal
use Rattle.gregorian.proofs.month_length.Goals.{else-l-via-then-l+else-m-eq2, else-l-via-else-l}

pub returns-then-m-gt12 : goal.returns-then-m-gt12
returns-then-m-gt12 c = sym (no_month c.args.l c.args.m c.if-m-gt12.true)

pub returns-then-m-eq2 : goal.returns-then-m-eq2
unfolding month_length
returns-then-m-eq2 c = simp (c.if-l.true, eq-eqb _ _ c.if-m-eq2.true)

pub returns : goal.returns
unfolding month_length
returns c =
    elim c.else-l.branch [
      | else-l-via-then-l+else-m-eq2 w ↦ simp (w.if-l.true, ne_eqb _ _ w.if-m-eq2.false)
      | else-l-via-else-l w ↦ simp w.if-l.false
    ]
