-- `asked::words::kind_of` meets its contract. Assumes nothing.
use borrow.Author.Tests.{le-leb, lt-leb}
use Rattle.asked.specs.Line.{kind_of}
use Rattle.asked.proofs.words.kind_of.Goals as goal

pub returns-then-n-le65535 : goal.returns-then-n-le65535
unfolding kind_of
returns-then-n-le65535 c = rw (le-leb c.args.n 65535 c.if-n-le65535.true)

pub returns-else-n-le65535 : goal.returns-else-n-le65535
unfolding kind_of
returns-else-n-le65535 c = rw (lt-leb c.args.n 65535 c.if-n-le65535.false)
