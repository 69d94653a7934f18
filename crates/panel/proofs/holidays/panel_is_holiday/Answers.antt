use Rattle.panel.proofs.holidays.panel_is_holiday.Goals as goal

pub returns : goal.returns
returns c = rw (← rw c.table_of-table.ensures at c.is_holiday.ensures) c.give_mark.ensures
