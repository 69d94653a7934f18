-- The line's row in the table of lines that lend. Assumes nothing.
use borrow.Author.Tests.{lt-ltb, le-ltb, ne_eqb}
use Rattle.lending.specs.Lending.{ones, lending_of}
use Rattle.lending.proofs.lending_of.Goals as goal

pub returns-then-bytes-gt0 : goal.returns-then-bytes-gt0
unfolding lending_of
returns-then-bytes-gt0 c = rw (lt-ltb _ _ c.if-bytes-gt0.true)

pub returns-then-tag-eq-TABLE : goal.returns-then-tag-eq-TABLE
unfolding lending_of ones
returns-then-tag-eq-TABLE c = rw (le-ltb _ _ c.if-bytes-gt0.false, c.if-tag-eq-TABLE.true, c.alone.ensures)

pub returns-then-tag-eq-CELLS : goal.returns-then-tag-eq-CELLS
unfolding lending_of
returns-then-tag-eq-CELLS c = rw (le-ltb _ _ c.if-bytes-gt0.false, c.if-tag-eq-CELLS.true, c.count_of.ensures)

pub returns-then-tag-eq-RULES : goal.returns-then-tag-eq-RULES
unfolding lending_of
returns-then-tag-eq-RULES c = rw (le-ltb _ _ c.if-bytes-gt0.false, c.if-tag-eq-RULES.true, c.alone-then-tag-eq-RULES.ensures)

pub returns-then-tag-eq-RULE : goal.returns-then-tag-eq-RULE
unfolding lending_of
returns-then-tag-eq-RULE c = rw (le-ltb _ _ c.if-bytes-gt0.false, c.if-tag-eq-RULE.true, c.count_of-then-tag-eq-RULE.ensures)

pub returns-then-tag-eq-TEXT : goal.returns-then-tag-eq-TEXT
unfolding lending_of
returns-then-tag-eq-TEXT c = rw (le-ltb _ _ c.if-bytes-gt0.false, c.if-tag-eq-TEXT.true, c.alone-then-tag-eq-TEXT.ensures)

pub returns : goal.returns
unfolding lending_of
returns c =
    rw (
      le-ltb _ _ c.if-bytes-gt0.false,
      ne_eqb _ _ c.if-tag-eq-TABLE.false,
      ne_eqb _ _ c.if-tag-eq-CELLS.false,
      ne_eqb _ _ c.if-tag-eq-RULES.false,
      ne_eqb _ _ c.if-tag-eq-RULE.false,
      ne_eqb _ _ c.if-tag-eq-TEXT.false,
    )
