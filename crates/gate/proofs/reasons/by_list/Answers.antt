-- The list that was stored shows the first of its festivals that is a holiday. Assumes nothing.
use mathlib.Core.Path.{◌≡◌, ap, ◌∙◌}
use native.Mathlib.Omega.{arith}
use Rattle.conversion.specs.Flat.{flat}
use Rattle.rules.specs.Rules.{rules_of}
use Rattle.rules.specs.Resolved.{list_by}
use Rattle.rules.proofs.Accepted.{good_rules}
use Rattle.rules.proofs.Used.{two_years}
use Rattle.festivals.specs.Kathmandu.{day_list_of}
use Rattle.festivals.proofs.Numbered.{numbered_from}
use Rattle.gate.specs.Reasons.{first_holiday}
use Rattle.gate.proofs.Why.{stored}
use Rattle.gate.proofs.reasons.by_list.Goals as goal

pub returns : goal.returns
returns c =
    let a = c.args in
    let p = c.put_day_list-count in
    let same : list_by (rules_of a.rules.now) c.day_numbered-day.result c.years_for-years.result ≡ day_list_of (flat a.table a.rows.now) (rules_of a.rules.now) a.bs a.number =
    rw (c.day_numbered-day.ensures, c.years_for-years.ensures)
    (two_years _ _ _ a.bs a.number (good_rules a.rules.now c.requires.1).counts.computed_few (numbered_from a.number c.requires.2)) in
    c.first_marked.ensures ∙ stored _ _ _ _ p.ensures.buf_after p.ensures.value (omega (arith, p.ensures.upper_bound)) ∙ ap first_holiday same
