use mathlib.Core.Path.{sym}
use native.Mathlib.Omega.{arith}
use Rattle.conversion.specs.Flat.{flat}
use Rattle.conversion.proofs.Accepted.{months_in, month_found}
use Rattle.conversion.proofs.Days.{date_is}
use Rattle.conversion.proofs.date_in_row.Goals as goal

pub find-p-requires : goal.find-p-requires
find-p-requires c = months_in _ _ _ (omega (arith, c.requires.row)) (omega arith)

pub overflow_cast-result : goal.overflow_cast-result
overflow_cast-result c = omega (arith, c.requires.row, c.requires.frame.few)

pub overflow_add-result : goal.overflow_add-result
overflow_add-result c = omega (arith, c.requires.row, c.requires.frame)

pub overflow_cast-result-3 : goal.overflow_cast-result-3
overflow_cast-result-3 c = omega (arith, c.find-p.ensures.whole, c.requires.short)

pub overflow_add-result-3 : goal.overflow_add-result-3
overflow_add-result-3 c = omega (arith, c.find-p.ensures.whole, c.requires.short)

pub returns : goal.returns
returns c h =
    let a = c.args in
    let s = month_found a.rows.now a.i _ _ _ h c.find-p.ensures in
    sym (date_is (flat a.table a.rows.now) a.i _ _ a.rest s.within s.whole)
