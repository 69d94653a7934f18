-- The file, then the buffer. Assumes nothing.
use Rattle.replies.specs.Replies.{said}
use borrow.Author.Rules.{rules}
use Rattle.std.proofs.Common.{◌≡◌}
use Rattle.replies.specs.declared.Reply.TheVariants as R
use Rattle.output.proofs.Gathering.{then}
use Rattle.questions.proofs.texts.put_written.Goals as goal

pub returns : goal.returns
returns c =
    let e : c.said.result ≡ said R.Number c.write_rules.result = search rules in
    rw (← c.write_rules.ensures, ← e) (then c.put-counted.ensures c.put_bytes.ensures)
