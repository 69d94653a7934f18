-- `warnings::words::put_what` meets its contract. Assumes nothing.
use Rattle.text.proofs.Writes.{then}
use Rattle.warnings.specs.Words.{what_text}
use Rattle.warnings.proofs.words.put_what.Goals as goal

pub returns-in-Twice : goal.returns-in-Twice
unfolding what_text
returns-in-Twice c = rw c.in-Twice.is (then c.put-a.ensures c.put_rule_lines.ensures)

pub returns-in-Shared : goal.returns-in-Shared
unfolding what_text
returns-in-Shared c = rw c.in-Shared.is (then c.put_name-a.ensures (then c.put_rule_lines-b.ensures c.put.ensures))

pub returns-in-NoText : goal.returns-in-NoText
unfolding what_text
returns-in-NoText c = rw c.in-NoText.is (then c.put_name-a-in-NoText.ensures c.put-in-NoText.ensures)

pub returns-in-NoDay : goal.returns-in-NoDay
unfolding what_text
returns-in-NoDay c = rw c.in-NoDay.is c.put_day.ensures

pub returns-in-Beside : goal.returns-in-Beside
unfolding what_text
returns-in-Beside c = rw c.in-Beside.is (then c.put_name-a-in-Beside.ensures (then c.put_rule_lines-b-in-Beside.ensures c.put-in-Beside.ensures))
