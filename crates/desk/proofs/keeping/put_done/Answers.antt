-- The reply, and the state as it was given. Assumes nothing.
use Rattle.replies.specs.Replies.{said}
use borrow.Author.Rules.{rules}
use Rattle.std.proofs.Common.{◌≡◌}
use Rattle.replies.specs.declared.Reply.TheVariants as R
use mathlib.Core.Path.{refl}
use Rattle.desk.proofs.keeping.put_done.Goals as goal

pub returns : goal.returns
returns c =
    let e : c.said.result ≡ said (λ done. R.Good) c.args.done.answer = search rules in
    record { gathers = rw (← e) c.put.ensures; kept_value = refl }
