use Rattle.panel.specs.Boundary.{month_numbers}
use Rattle.panel.proofs.Handing.{handed, both}
use Rattle.panel.proofs.months.panel_month_grid.Goals as goal

pub returns : goal.returns
returns c = let e = rw c.table_of-table.ensures at c.month_grid.ensures in
    handed month_numbers _ e.result_value c.give_grid.ensures (both e.cells_after e.festivals_after)
