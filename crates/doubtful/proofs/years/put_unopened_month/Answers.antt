-- `doubtful::years::put_unopened_month` meets its contract. Assumes nothing.
use mathlib.Core.Path.{◌∙◌}
use Rattle.output.proofs.Pieces.{then}
use Rattle.doubtful.proofs.Sheets.{unopened_sheet, month_opened, month_empty}
use Rattle.doubtful.proofs.years.put_unopened_month.Goals as goal

pub returns-then-opened : goal.returns-then-opened
returns-then-opened c = month_opened _ _ _ _ _ _ c.if-opened.true

pub returns : goal.returns
returns c = unopened_sheet c.args.p _ c.put_heading-h.result c.put_heading-h.ensures.puts c.put_heading-h.ensures.result_value c.put_month_rules-b.result c.more.result (then c.put_no_moon-a.ensures c.put_month_rules-b.ensures) c.more.ensures ∙ month_empty _ _ _ _ _ _ c.if-opened.false
