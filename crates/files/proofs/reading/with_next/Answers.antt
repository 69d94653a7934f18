-- `files::reading::with_next` meets its contract. Assumes nothing.
use Rattle.std.proofs.Common.{refl}
use Rattle.files.proofs.Made.{instead, next_over, next-long, next-text}
use Rattle.files.proofs.reading.with_next.Goals as goal

pub returns-then-r-ge10000 : goal.returns-then-r-ge10000
returns-then-r-ge10000 c = let a = c.args in instead c.faulted.ensures refl (next_over a.r a.rows.now a.s.now a.long c.if-r-ge10000.true)

pub returns-then-long : goal.returns-then-long
returns-then-long c = let a = c.args in
    instead c.faulted-then-long.ensures refl
    (next-long a.r a.rows.now a.s.now a.long c.if-r-ge10000.false c.numbered-q.ensures c.if-long.true)

pub returns : goal.returns
returns c = let a = c.args in
    next-text a.r a.rows.now a.s.now a.long c.if-r-ge10000.false c.numbered-q.ensures c.if-long.false c.with_line.ensures
