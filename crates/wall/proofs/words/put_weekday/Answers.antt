-- `wall::words::put_weekday` meets its contract. Assumes nothing.
use Rattle.wall.specs.Words.{weekdays}
use Rattle.wall.proofs.words.put_weekday.Goals as goal

pub returns : goal.returns
unfolding weekdays
returns c = c.put_word.ensures
