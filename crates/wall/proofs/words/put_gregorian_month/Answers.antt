-- `wall::words::put_gregorian_month` meets its contract. Assumes nothing.
use Rattle.wall.specs.Words.{gregorian_months}
use Rattle.wall.proofs.words.put_gregorian_month.Goals as goal

pub returns : goal.returns
unfolding gregorian_months
returns c = c.put_word.ensures
