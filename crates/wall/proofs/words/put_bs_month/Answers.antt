-- `wall::words::put_bs_month` meets its contract. Assumes nothing.
use Rattle.wall.specs.Words.{bs_months}
use Rattle.wall.proofs.words.put_bs_month.Goals as goal

pub returns : goal.returns
unfolding bs_months
returns c = c.put_word.ensures
