-- `files::reading::begun` meets its contract. Assumes nothing.
use Rattle.files.proofs.Made.{begun_front}
use Rattle.files.proofs.reading.begun.Goals as goal

pub returns : goal.returns
returns c = begun_front c.args.r c.args.values
