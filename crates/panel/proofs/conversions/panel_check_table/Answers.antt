use Rattle.panel.proofs.conversions.panel_check_table.Goals as goal

pub returns : goal.returns
returns c = rw (← rw c.table_of-table.ensures at c.accepts.ensures) c.acceptance.ensures
