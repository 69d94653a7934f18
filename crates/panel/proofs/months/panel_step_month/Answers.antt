use mir.Syntax.{w32}
use mir.ValLaws.{to_z-of_z}
use Rattle.panel.proofs.months.panel_step_month.Goals as goal

pub returns : goal.returns
returns c = let e = rw (c.table_of-table.ensures, to_z-of_z w32 c.args.step c.ranges.step) at c.step_month.ensures in
    rw (← e) c.give_month.ensures
