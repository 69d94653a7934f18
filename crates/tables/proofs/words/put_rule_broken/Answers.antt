-- `tables::words::put_rule_broken` meets its contract: each variant's line is put. Assumes nothing.
use Rattle.tables.specs.Words.{rule_text}
use Rattle.tables.proofs.words.put_rule_broken.Goals as goal

pub returns-in-FirstYear : goal.returns-in-FirstYear
unfolding rule_text
returns-in-FirstYear c = rw c.in-FirstYear.is c.put_year_fault.ensures

pub returns-in-NoRow : goal.returns-in-NoRow
unfolding rule_text
returns-in-NoRow c = rw c.in-NoRow.is c.put.ensures

pub returns-in-ManyRows : goal.returns-in-ManyRows
unfolding rule_text
returns-in-ManyRows c = rw c.in-ManyRows.is c.put-in-ManyRows.ensures

pub returns-in-NoDate : goal.returns-in-NoDate
unfolding rule_text
returns-in-NoDate c = rw c.in-NoDate.is c.put_day_fault.ensures

pub returns-in-FirstDay : goal.returns-in-FirstDay
unfolding rule_text
returns-in-FirstDay c = rw c.in-FirstDay.is c.put_day_fault-in-FirstDay.ensures

pub returns-in-Cell : goal.returns-in-Cell
unfolding rule_text
returns-in-Cell c = rw c.in-Cell.is c.put_cell_fault.ensures

pub returns-in-LastDay : goal.returns-in-LastDay
unfolding rule_text
returns-in-LastDay c = rw c.in-LastDay.is c.put-in-LastDay.ensures
