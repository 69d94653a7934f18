-- `tables::broken::place_of` meets its contract. Assumes nothing.
use Rattle.std.proofs.Common.{◌∙◌}
use Rattle.tables.proofs.Turns.{year_low, year_high, rows_none, rows-many, day_none, day-early, rows_left}
use Rattle.tables.proofs.broken.place_of.Goals as goal

pub returns-then-table-lt1 : goal.returns-then-table-lt1
returns-then-table-lt1 c = let a = c.args in year_low a.table a.rows.now c.if-table-lt1.true

pub returns-then-table-gt3000 : goal.returns-then-table-gt3000
returns-then-table-gt3000 c = let a = c.args in year_high a.table a.rows.now c.if-table-lt1.false c.if-table-gt3000.true

pub returns-then-n-lt1 : goal.returns-then-n-lt1
returns-then-n-lt1 c = let a = c.args in rows_none a.table a.rows.now c.if-table-lt1.false c.if-table-gt3000.false c.year_count-n.ensures c.if-n-lt1.true

pub returns-then-n-gt128 : goal.returns-then-n-gt128
returns-then-n-gt128 c = let a = c.args in rows-many a.table a.rows.now c.if-table-lt1.false c.if-table-gt3000.false c.year_count-n.ensures c.if-n-lt1.false c.if-n-gt128.true

pub returns-in_default : goal.returns-in_default
returns-in_default c = let a = c.args in
    day_none a.table a.rows.now c.if-table-lt1.false c.if-table-gt3000.false c.year_count-n.ensures c.if-n-lt1.false c.if-n-gt128.false c.in_default.ensures

pub returns-then-start-lt2415386 : goal.returns-then-start-lt2415386
returns-then-start-lt2415386 c = let a = c.args in
    day-early a.table a.rows.now c.if-table-lt1.false c.if-table-gt3000.false c.year_count-n.ensures c.if-n-lt1.false c.if-n-gt128.false c.in-Ok.ensures c.if-start-lt2415386.true

pub returns : goal.returns
returns c = let a = c.args in
    c.row_of.ensures ∙ rows_left a.table a.rows.now c.if-table-lt1.false c.if-table-gt3000.false c.year_count-n.ensures c.if-n-lt1.false c.if-n-gt128.false c.in-Ok.ensures c.if-start-lt2415386.false
