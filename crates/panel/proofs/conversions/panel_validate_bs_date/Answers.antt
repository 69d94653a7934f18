use Rattle.panel.proofs.conversions.panel_validate_bs_date.Goals as goal

pub returns : goal.returns
returns c = rw (← rw c.table_of-table.ensures at c.validate_bs_date.ensures) c.code.ensures
