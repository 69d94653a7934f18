use Rattle.panel.proofs.conversions.panel_bs_month_len.Goals as goal

pub returns : goal.returns
returns c = rw (← rw c.table_of-table.ensures at c.bs_month_len.ensures) c.give.ensures
