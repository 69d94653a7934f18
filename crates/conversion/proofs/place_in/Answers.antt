use Prim.Native.Nat.{◌<◌}
use mathlib.Core.Path.{sym, ap, ◌∙◌}
use native.Mathlib.Omega.{arith}
use Rattle.std.specs.Prelude.{Ok}
use Rattle.conversion.specs.Flat.{flat, row_count}
use Rattle.conversion.proofs.Accepted.{past}
use Rattle.conversion.proofs.Days.{from_in, from_before, from_past}
use Rattle.conversion.proofs.place_in.Goals as goal

pub returns-then-n-start : goal.returns-then-n-start
returns-then-n-start c g =
    let a = c.args in
    rw c.requires.begins.first (sym (from_before (flat a.table a.rows.now) a.n g (omega (arith, c.requires.begins.first))))

pub overflow_add-result : goal.overflow_add-result
overflow_add-result c = omega (arith, c.requires.most, c.requires.begins.first, c.requires.begins.frame.day_from)

pub returns-then-year_count-i : goal.returns-then-year_count-i
returns-then-year_count-i c g =
    let a = c.args in
    let e = past a.rows.now _ _ _ _ (c.requires.found g) (omega (arith, c.year_count.ensures)) in
    sym (from_past (flat a.table a.rows.now) a.n g a.rest (omega (arith, c.requires.begins.first)))

pub date_in_row-requires : goal.date_in_row-requires
date_in_row-requires c =
    let l : c.args.i < row_count c.args.rows.now = omega (arith, c.year_count.ensures) in
    record { frame = c.requires.begins.frame; row = l; short = c.requires.short l }

pub returns : goal.returns
returns c g =
    let a = c.args in
    let k = c.requires.found g in
    let l = k.within (omega (arith, c.year_count.ensures)) in
    ap Ok (c.date_in_row.ensures l)
    ∙ sym (from_in (flat a.table a.rows.now) a.i a.rest a.n (omega (arith, c.year_count.ensures)) l (omega (arith, c.requires.begins.first, k.whole)) g)
