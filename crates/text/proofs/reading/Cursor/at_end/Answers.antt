-- `text::reading::Cursor::at_end` meets its contract. Assumes nothing.
use Rattle.text.proofs.Texts.{ends}
use Rattle.text.proofs.reading.Cursor.at_end.Goals as goal

pub returns : goal.returns
returns c = ends c.args.s.now c.args.self.at
