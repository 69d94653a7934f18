-- `answers::searches::search` meets its contract. Assumes nothing.
use Rattle.replies.specs.Replies.{said}
use Rattle.std.proofs.Common.{◌≡◌}
use borrow.Author.Rules.{rules}
use Rattle.sky.specs.Answers.{starts_says}
use Rattle.replies.specs.declared.Reply.TheVariants as R
use Rattle.output.proofs.Gathering.{then}
use Rattle.answers.specs.Searches.{starts_words}
use Rattle.answers.proofs.searches.search.Goals as goal

pub returns : goal.returns
unfolding starts_words
returns c = let e : c.said.result ≡ said (λ p. R.Pair p.0 p.1) (starts_says c.tithi_starts_between-a.result) = search rules in
    rw (← c.small.ensures, ← c.float.ensures, ← c.float-2.ensures, ← c.tithi_starts_between-a.ensures.answer, ← c.tithi_starts_between-a.ensures.buffer, ← e) (then c.put-counted.ensures c.put_list.ensures)
