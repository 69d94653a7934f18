use Rattle.panel.specs.Boundary.{days_in}
use Rattle.panel.proofs.Handing.{handed_told}
use Rattle.panel.proofs.day_lists.panel_festivals_on_ad.Goals as goal

pub returns : goal.returns
returns c = let e = rw c.table_of-table.ensures at c.festivals_on_ad.ensures in
    handed_told days_in (λ n. n) _ e.result_value c.give_count_or_days.ensures e.out_after
