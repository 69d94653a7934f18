-- `patro::years::state_of` meets its contract. Assumes nothing.
use Rattle.patro.proofs.Rows.{none_held, table_held, rules_held}
use Rattle.patro.proofs.years.state_of.Goals as goal

pub append_rows-requires : goal.append_rows-requires
append_rows-requires c =
    let s = c.start in
    (none_held c.args.table c.args.rows.now s.result c.requires.0 s.ensures, rw (table_held s.ensures) c.requires.0)

pub returns : goal.returns
returns c =
    let a = c.args in
    rules_held a.table a.rows.now a.rules.now c.requires.1 _ (rw (table_held c.start.ensures) at c.append_rows.ensures) _ c.take_rules.ensures
