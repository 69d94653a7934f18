-- `fields::row::past_spaces` meets its contract. Assumes nothing.
use Rattle.fields.proofs.Rows.{spaces_skipped}
use Rattle.fields.proofs.row.past_spaces.Goals as goal

pub returns : goal.returns
returns c = let a = c.args in spaces_skipped a.s.now a.from c.spaces.result c.requires c.spaces.ensures
