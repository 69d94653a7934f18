-- `files::reading::stored` meets its contract. Assumes nothing.
use Rattle.std.proofs.Common.{refl, arith}
use Rattle.files.proofs.Made.{instead, row_over, row_stored}
use Rattle.files.proofs.reading.stored.Goals as goal

pub returns-then-rows-lt13 : goal.returns-then-rows-lt13
returns-then-rows-lt13 c = let a = c.args in
    instead c.faulted.ensures refl (row_over a.r a.rows.now a.values (omega (arith, c.requires)) (omega (arith, c.if-rows-lt13.true)))

pub returns-then-rows-count : goal.returns-then-rows-count
returns-then-rows-count c = let a = c.args in
    instead c.faulted-then-rows-count.ensures refl
    (row_over a.r a.rows.now a.values (omega (arith, c.requires)) (omega (arith, c.if-rows-count.true, c.if-rows-lt13.false)))

pub returns : goal.returns
returns c = let a = c.args in
    instead c.counted.ensures c.store.ensures
    (row_stored a.r a.rows.now a.values (omega (arith, c.requires)) (omega (arith, c.if-rows-count.false, c.if-rows-lt13.false)))
