-- `convert::reply::bs_reply` meets its contract. Assumes nothing.
use mathlib.Core.Path.{ap, ◌∙◌}
use Rattle.convert.specs.Replies.{from_bs, bs_reply}
use Rattle.convert.proofs.reply.bs_reply.Goals as goal

pub returns : goal.returns
unfolding bs_reply
returns c = let a = c.args in
    c.beside_ad.ensures ∙ ap (from_bs a.y a.m a.d) (rw c.table.ensures at c.bs_to_ad.ensures)
