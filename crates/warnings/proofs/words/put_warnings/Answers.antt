-- `warnings::words::put_warnings` meets its contract. Assumes nothing.
use mathlib.Core.Path.{◌∙◌}
use Rattle.text.proofs.Writes.{wrote_none, then}
use Rattle.warnings.proofs.Told.{told_none, told_five}
use Rattle.warnings.proofs.words.put_warnings.Goals as goal

pub returns-then-n-j : goal.returns-then-n-j
returns-then-n-j c = rw (told_none _ _ _ _ _ c.if-n-j.true) (wrote_none _ _)

pub shape_of-out : goal.shape_of-out
shape_of-out c = c.put_told.auto.out ∙ c.put_told-d.auto.out ∙ c.put_told-c.auto.out ∙ c.put_told-b.auto.out ∙ c.put_told-a.auto.out

pub returns : goal.returns
returns c = rw (told_five _ _ _ _ _ c.if-n-j.false c.rule_at-r.ensures c.twice.ensures c.shared.ensures c.no_text.ensures c.no_day.ensures c.beside.ensures)
    (then c.put_told-a.ensures (then c.put_told-b.ensures (then c.put_told-c.ensures (then c.put_told-d.ensures c.put_told.ensures))))
