-- `doubtful::years::put_dated_moon` meets its contract. Assumes nothing.
use mathlib.Core.Path.{◌∙◌}
use Rattle.output.proofs.Pieces.{then, puts_out}
use Rattle.doubtful.proofs.Sheets.{doubted_sheet, dated_beside, dated_far, dated_plain}
use Rattle.doubtful.proofs.years.put_dated_moon.Goals as goal

pub returns-then-opens : goal.returns-then-opens
returns-then-opens c = dated_plain _ _ _ _ _ _ _ _ c.near.result c.near.ensures c.in-None.is c.if-opens.true

pub returns-in-Some : goal.returns-in-Some
returns-in-Some c = doubted_sheet c.args.p _ c.put_heading-h.result c.put_heading-h.ensures.puts c.put_heading-h.ensures.result_value c.tallied.result _ _ _ (puts_out c.tallied.ensures.0 (then c.put_moment-o.ensures c.put_beside-b.ensures)) c.tallied.ensures.1 ∙ dated_beside _ _ _ _ _ _ _ _ c.near.result c.near.ensures c.in-Some.is

pub returns-else-opens : goal.returns-else-opens
returns-else-opens c = doubted_sheet c.args.p _ c.put_heading-h-in-None.result c.put_heading-h-in-None.ensures.puts c.put_heading-h-in-None.ensures.result_value c.tallied-in-None.result _ _ _ (puts_out c.tallied-in-None.ensures.0 (then c.put_moment-o-in-None.ensures c.put_opening-b.ensures)) c.tallied-in-None.ensures.1 ∙ dated_far _ _ _ _ _ _ _ _ c.near.result c.near.ensures c.in-None.is c.if-opens.false
