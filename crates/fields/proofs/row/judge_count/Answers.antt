-- `fields::row::judge_count` meets its contract. Assumes nothing.
use Rattle.fields.proofs.Rows.{judged_blank, judged-good, judged-other}
use Rattle.fields.proofs.row.judge_count.Goals as goal

pub returns-then-k-eq0 : goal.returns-then-k-eq0
returns-then-k-eq0 c = judged_blank c.args.wanted c.args.k c.if-k-eq0.true

pub returns-then-k-wanted : goal.returns-then-k-wanted
returns-then-k-wanted c = judged-good c.args.wanted c.args.k c.if-k-eq0.false c.if-k-wanted.true

pub returns-else-k-wanted : goal.returns-else-k-wanted
returns-else-k-wanted c = judged-other c.args.wanted c.args.k c.if-k-eq0.false c.if-k-wanted.false
