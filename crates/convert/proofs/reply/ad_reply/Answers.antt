-- `convert::reply::ad_reply` meets its contract. Assumes nothing.
use mathlib.Core.Path.{ap, ◌∙◌}
use Rattle.convert.specs.Replies.{from_ad_date, ad_reply}
use Rattle.convert.proofs.reply.ad_reply.Goals as goal

pub returns : goal.returns
unfolding ad_reply
returns c = let a = c.args in
    c.beside_bs.ensures ∙ ap (from_ad_date a.y a.m a.d) (rw c.table.ensures at c.ad_to_bs.ensures)
