use Rattle.panel.proofs.conversions.panel_ad_to_bs.Goals as goal

pub returns : goal.returns
returns c = rw (← rw c.table_of-table.ensures at c.ad_to_bs.ensures) c.give_bs.ensures
