use Rattle.panel.proofs.conversions.panel_bs_to_ad.Goals as goal

pub returns : goal.returns
returns c = rw (← rw c.table_of-table.ensures at c.bs_to_ad.ensures) c.give_date.ensures
