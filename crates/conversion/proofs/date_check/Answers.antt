-- `conversion::date_check` meets its contract. Assumes nothing.
use mathlib.Core.Path.{sym, ◌∙◌}
use Rattle.paper.proofs.Tests.{in_range_is}
use Rattle.conversion.specs.Calendar.{valid_bs}
use Rattle.conversion.proofs.Days.{len_told, of_month_law, len_refused}
use Rattle.conversion.proofs.date_check.Goals as goal

pub returns-in-Ok : goal.returns-in-Ok
unfolding valid_bs
returns-in-Ok c =
    let k = len_told _ _ _ _ c.in-Ok.ensures in
    let s = c.new.ensures in
    let day = rw (s.start, s.end, s.exhausted, in_range_is, ← k.1) at c.if-contains.ensures.value in
    sym (of_month_law _ _ _ _ k.0 ∙ rw (← day))

pub returns-in-Ok-2 : goal.returns-in-Ok-2
unfolding valid_bs
returns-in-Ok-2 c =
    let k = len_told _ _ _ _ c.in-Ok.ensures in
    let s = c.new.ensures in
    let day = rw (s.start, s.end, s.exhausted, in_range_is, ← k.1) at c.if-contains.ensures.value in
    sym (of_month_law _ _ _ _ k.0 ∙ rw (← day))

pub returns-in-Err : goal.returns-in-Err
unfolding valid_bs
returns-in-Err c = len_refused _ _ _ c.args.date.day tt _ c.in-Err.ensures
