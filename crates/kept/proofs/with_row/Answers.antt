-- `kept::with_row` meets its contract. Assumes nothing.
use Rattle.kept.proofs.Records.{zeros_both}
use Rattle.kept.proofs.with_row.Goals as goal

pub returns : goal.returns
returns c =
    zeros_both 1664 c.args.rows.now c.args.row.now _ _ c.requires c.put_at.ensures c.put_at-2.ensures
