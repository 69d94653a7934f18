-- `doubtful::page::more_if` meets its contract. Assumes nothing.
use Rattle.doubtful.proofs.page.more_if.Goals as goal

pub returns-then-counts : goal.returns-then-counts
returns-then-counts c = rw c.if-counts.true c.more.ensures

pub returns-else-counts : goal.returns-else-counts
returns-else-counts c = rw c.if-counts.false
