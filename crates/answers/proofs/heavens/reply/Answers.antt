-- `answers::heavens::reply` meets its contract. Assumes nothing.
use Rattle.answers.specs.Heavens.{heavens_reply}
use borrow.Author.Tests.{ne_eqb}
use Rattle.answers.proofs.heavens.reply.Goals as goal

pub returns-then-w-eq4 : goal.returns-then-w-eq4
unfolding heavens_reply
returns-then-w-eq4 c = rw (c.if-w-eq4.true, c.of_float.ensures, c.float.ensures)

pub returns : goal.returns
unfolding heavens_reply
returns c = rw (ne_eqb _ _ c.if-w-eq4.false)
