-- `replies::put_bytes` meets its contract. Assumes nothing.
use mathlib.Core.Path.{sym, ◌∙◌}
use Rattle.output.proofs.Gathering.{then}
use Rattle.replies.proofs.Octets.{bytes_none, bytes_some}
use Rattle.replies.proofs.put_bytes.Goals as goal

pub returns-then-is_empty : goal.returns-then-is_empty
returns-then-is_empty c = rw (← bytes_none c.args.list.now (sym c.is_empty.ensures ∙ c.if-is_empty.true)) c.word-p.ensures

pub returns : goal.returns
returns c = rw (← bytes_some c.args.list.now (sym c.is_empty.ensures ∙ c.if-is_empty.false)) (then c.word-p.ensures c.octets.ensures)
