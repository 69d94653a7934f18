-- The number, and what is told behind it. Assumes nothing.
use mathlib.Core.Path.{ap}
use Rattle.output.proofs.Gathering.{then}
use Rattle.replies.specs.Replies.{told_words, reply_words}
use Rattle.replies.proofs.put_refusal.Goals as goal

pub returns : goal.returns
unfolding reply_words
returns c =
    then (rw c.number.ensures at c.number-2.ensures)
    (rw (ap told_words c.told.ensures) at c.put_told.ensures)
