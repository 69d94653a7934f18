use Rattle.std.proofs.Common.{◌≡◌, ◌+◌, ◌-◌, ◌<◌, ◌≤◌, le_trans, arith}
use Rattle.gregorian.specs.Calendar.{leap, day_number}
use Rattle.gregorian.proofs.Months.{month_high}
use Rattle.gregorian.proofs.Laws.{IsReal, real_of, number_is, number_below, all_number, date}
use Rattle.gregorian.proofs.number.Goals as goal
use Rattle.gregorian.proofs.number.Goals.{After-month_start-months, Start}

known : (c : Start) → IsReal (date c.args.y c.args.m c.args.d)
known c = real_of (date c.args.y c.args.m c.args.d) c.requires

-- the three parts make the number
whole : (c : After-month_start-months)
    → 2415021 + c.year_start-years.result + c.month_start-months.result + (c.args.d - 1)
    ≡ day_number (date c.args.y c.args.m c.args.d)
whole c = rw (number_is, ← c.is_leap.ensures, ← c.month_start-months.ensures, ← c.year_start-years.ensures)

small : (c : After-month_start-months) → 2415021 + c.year_start-years.result + c.month_start-months.result + (c.args.d - 1) < 2506332
small c =
    let a = c.args in
    rw (whole c) (omega (arith, number_below (date a.y a.m a.d) (known c.before.before.before), all_number))

pub overflow_sub-y : goal.overflow_sub-y
overflow_sub-y c = let k = (known c).low in omega arith

pub year_start-years-requires : goal.year_start-years-requires
year_start-years-requires c = let k = (known c).low in let h = (known c).high in omega arith

pub month_start-months-requires : goal.month_start-months-requires
month_start-months-requires c =
    let known : IsReal (date c.args.y c.args.m c.args.d) = real_of (date c.args.y c.args.m c.args.d) c.requires in
    let month : c.args.m ≤ 12 = let k = known in month_high (leap c.args.y) c.args.m (le_trans k.first k.last) in
    let k = month in omega arith

pub overflow_add-result : goal.overflow_add-result
overflow_add-result c = omega (arith, small c)

pub overflow_add-result-2 : goal.overflow_add-result-2
overflow_add-result-2 c = omega (arith, small c)

pub overflow_sub-result : goal.overflow_sub-result
overflow_sub-result c =
    let known : IsReal (date c.args.y c.args.m c.args.d) = real_of (date c.args.y c.args.m c.args.d) c.requires in
    known.first

pub overflow_add-result-3 : goal.overflow_add-result-3
overflow_add-result-3 c = omega (arith, small c)

pub returns : goal.returns
returns c = whole c
