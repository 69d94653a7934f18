use Rattle.panel.proofs.Handing.{handed}
use Rattle.panel.proofs.day_lists.panel_festivals_on.Goals as goal

pub returns : goal.returns
returns c = let e = rw c.table_of-table.ensures at c.festivals_on.ensures in
    handed (λ n. n) _ e.result_value c.give.ensures e.out_after
