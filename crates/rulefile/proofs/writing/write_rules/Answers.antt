-- `rulefile::writing::write_rules` meets its contract: 2 and 9 in this order, and then the bytes. Assumes nothing.
use mathlib.Core.Path.{sym, ◌∙◌}
use Rattle.rulefile.proofs.Outcomes.{bad_rules, too_long, all-written}
use Rattle.rulefile.proofs.writing.write_rules.Goals as goal

pub returns-then-not-accepts_rules : goal.returns-then-not-accepts_rules
returns-then-not-accepts_rules c =
    let a = c.args in
    bad_rules a.rules.now a.out.now (sym c.accepts_rules.ensures ∙ c.if-not-accepts_rules.true)

pub returns-then-not-has_room : goal.returns-then-not-has_room
returns-then-not-has_room c =
    let a = c.args in
    too_long a.rules.now a.out.now (sym c.accepts_rules.ensures ∙ c.if-not-accepts_rules.false)
    (sym c.has_room.ensures ∙ c.if-not-has_room.true)

pub returns : goal.returns
returns c =
    let a = c.args in
    all-written a.rules.now a.out.now (sym c.accepts_rules.ensures ∙ c.if-not-accepts_rules.false)
    (sym c.has_room.ensures ∙ c.if-not-has_room.false) c.put_all.ensures
