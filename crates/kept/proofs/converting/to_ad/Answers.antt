-- `kept::converting::to_ad` meets its contract. Assumes nothing.
use mathlib.Core.Path.{sym, ◌∙◌}
use Rattle.kept.proofs.Replies.{none_in, some_in}
use Rattle.kept.proofs.Conversions.{if_none, if_some, some_accepted}
use Rattle.kept.proofs.converting.to_ad.Goals as goal

pub returns-then-is_empty : goal.returns-then-is_empty
returns-then-is_empty c w = sym (if_none _ _ (none_in _ c.if-is_empty.ensures))

pub returns : goal.returns
returns c w =
    let h = some_in _ c.if-is_empty.ensures in
    c.bs_to_ad.ensures (some_accepted _ _ h w) ∙ sym (if_some _ _ h)
