-- `rulefile::reading::read_kept` meets its contract: 12, 2 and 9 in this order, and then the numbers. Assumes nothing.
use Rattle.std.proofs.Common.{◌≡◌, Err, rules}
use Rattle.rulefile.proofs.Outcomes.{out_of_form, many, not_good, no_room, all_read}
use Rattle.rulefile.proofs.reading.read_kept.Goals as goal

pub returns-in_err-n : goal.returns-in_err-n
returns-in_err-n c =
    let e : c.from_residual.result ≡ Err c.in_err-n.field-0.0 = search rules in
    rw e (out_of_form _ c.read_all.ensures c.in_err-n.was)

pub returns-then-n-gt2560 : goal.returns-then-n-gt2560
returns-then-n-gt2560 c = many _ c.read_all.ensures c.in_ok-n.was c.if-n-gt2560.true

pub returns-then-not-accepts_rules : goal.returns-then-not-accepts_rules
returns-then-not-accepts_rules c =
    not_good _ c.read_all.ensures c.in_ok-n.was c.requires c.if-n-gt2560.false c.accepts_rules.ensures c.if-not-accepts_rules.true

pub returns-then-rules-n : goal.returns-then-rules-n
returns-then-rules-n c =
    no_room _ c.read_all.ensures c.in_ok-n.was c.requires c.if-n-gt2560.false c.accepts_rules.ensures c.if-not-accepts_rules.false
    c.if-rules-n.true

pub returns : goal.returns
returns c =
    rw c.copy_from_slice.ensures.after
    (all_read _ c.read_all.ensures c.in_ok-n.was c.requires c.if-n-gt2560.false c.accepts_rules.ensures c.if-not-accepts_rules.false
    c.if-rules-n.false)
