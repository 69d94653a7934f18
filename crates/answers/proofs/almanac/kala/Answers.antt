-- `answers::almanac::kala` meets its contract. Assumes nothing.
use Rattle.replies.specs.Replies.{among}
use Rattle.answers.specs.Almanac.{kala_rows}
use Rattle.answers.proofs.Rows.{other}
use Rattle.answers.proofs.almanac.kala.Goals as goal

pub returns-in-0 : goal.returns-in-0
unfolding among
returns-in-0 c = rw (c.in-0.is, c.at.ensures)

pub returns-in-1 : goal.returns-in-1
unfolding among
returns-in-1 c = rw (c.in-1.is, c.at-in-1.ensures)

pub returns-in-2 : goal.returns-in-2
unfolding among
returns-in-2 c = rw (c.in-2.is, c.at-in-2.ensures)

pub returns-in-3 : goal.returns-in-3
unfolding among
returns-in-3 c = rw (c.in-3.is, c.at-in-3.ensures)

pub returns-in-4 : goal.returns-in-4
unfolding among
returns-in-4 c = rw (c.in-4.is, c.at-in-4.ensures)

pub returns-in-5 : goal.returns-in-5
unfolding among
returns-in-5 c = rw (c.in-5.is, c.at-in-5.ensures)

pub returns-in_default : goal.returns-in_default
returns-in_default c = other c.args.k (kala_rows c.args.d) c.in_default.in_default-own.rest
