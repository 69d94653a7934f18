-- `notes::lines::put_if_of_month` meets its contract. Assumes nothing.
use Rattle.notes.proofs.Lists.{next_none, begun-none, next-rule, begun-rule}
use Rattle.notes.proofs.lines.put_if_of_month.Goals as goal

pub returns-then-r-month : goal.returns-then-r-month
returns-then-r-month c = record { puts = next_none _ c.rule_at-r.ensures c.if-r-month.true _ _ _; some_value = begun-none _ c.rule_at-r.ensures c.if-r-month.true _ }

pub returns : goal.returns
returns c = record { puts = next-rule _ c.rule_at-r.ensures c.if-r-month.false _ c.put_rule_line.ensures; some_value = begun-rule _ c.rule_at-r.ensures c.if-r-month.false c.args.l.some }
