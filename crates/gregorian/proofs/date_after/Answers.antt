use Rattle.gregorian.specs.declared.Date.{Date}
use Rattle.std.proofs.Common.{◌≡◌, ◌+◌, ◌-◌, ◌<◌, ap, ◌∙◌, add-one, arith}
use Rattle.gregorian.specs.Calendar.{leap, month_length, month_start, year_start, year_length, first_number, day_number}
use Rattle.gregorian.proofs.Months.{start_suc}
use Rattle.gregorian.proofs.Laws.{IsReal, date, number_is, years_suc, length_high, all_number, after_is}
use Rattle.gregorian.proofs.date_after.Goals as goal
use Rattle.gregorian.proofs.date_after.Goals.{After-month_start}

-- what the code makes
abbrev answer : After-month_start → Date
answer c =
    date (1900 + c.year_of-k.result) c.month_of-m.result (c.args.n - c.year_start.result - c.month_start.result + 1)

-- it is a date
good : (c : After-month_start) → IsReal (answer c)
good c =
    let k = c.year_of-k.result in
    let m = c.month_of-m.result in
    let l = c.is_leap-l.result in
    let e : l ≡ leap (1900 + k) = c.is_leap-l.ensures in
    let y = c.year_of-k.ensures.0 in
    let h = c.month_of-m.ensures.3 in
    let g = c.month_of-m.ensures.2 in
    let s = c.month_start.ensures in
    let a : month_start l (m + 1) ≡ month_start l m + month_length l m = ap (month_start l) (add-one m) ∙ start_suc l m in
    record { low = omega arith; high = omega arith; first = omega arith; last = rw (← e) (omega arith) }

-- it lies n days after the first
counted : (c : After-month_start) → day_number (answer c) ≡ first_number + c.args.n
counted c =
    let k = c.year_of-k.result in
    let e : c.is_leap-l.result ≡ leap (1900 + k) = c.is_leap-l.ensures in
    let z : 1900 + k - 1900 ≡ k = omega arith in
    let y = c.year_start.ensures in
    let b = c.year_of-k.ensures.1 in
    let g = c.month_of-m.ensures.2 in
    let s = c.month_start.ensures in
    rw (number_is (answer c), z, ← e) (omega arith)

pub year_of-k-requires : goal.year_of-k-requires
year_of-k-requires c = c.requires

pub month_of-m-requires : goal.month_of-m-requires
month_of-m-requires c =
    let k = c.year_of-k.result in
    let e = c.year_of-k.ensures.2 in
    let a : year_start (k + 1) ≡ year_start k + year_length (leap (1900 + k)) = ap year_start (add-one k) ∙ years_suc k in
    rw (c.year_start.ensures, c.is_leap-l.ensures) (omega arith)

pub overflow_add-d : goal.overflow_add-d
overflow_add-d c =
    let h = c.requires in
    omega (arith, all_number)

pub overflow_cast-d : goal.overflow_cast-d
overflow_cast-d c =
    let m : c.month_of-m.result < 13 = omega arith in
    let h = (good c).last in
    let g = length_high (leap (answer c).year) (answer c).month m in
    omega arith

pub returns : goal.returns
returns c = after_is (answer c) c.args.n (good c) (counted c)
