-- `wall::words::put_word` meets its contract. Assumes nothing.
use Rattle.wall.specs.Words.{word}
use Rattle.wall.proofs.words.put_word.Goals as goal

pub returns : goal.returns
unfolding word
returns c = rw (← c.line_from.ensures) c.put_up_to.ensures
