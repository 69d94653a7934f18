use Rattle.std.proofs.Common.{T, sym, ◌∙◌, arith}
use Rattle.gregorian.specs.Calendar.{is_date}
use Rattle.gregorian.proofs.Laws.{IsReal, real_of, next_good, next_last, next_day_law, next_month, real_day, real_month}
use Rattle.gregorian.proofs.Date.next.Goals as goal
use Rattle.gregorian.proofs.Date.next.Goals.{Else-not-is_date}

-- the date is one
known : (c : Else-not-is_date) → IsReal c.args.self
known c =
    let x = c.args.self in
    let t : T (is_date x.year x.month x.day) = rw (sym c.is_date.ensures ∙ c.if-not-is_date.false) tt in
    real_of x t

pub returns-then-day-month_length : goal.returns-then-day-month_length
returns-then-day-month_length c =
    let x = c.args.self in
    let r = known (goal.at.returns-then-day-month_length c).Else-not-is_date in
    let h = rw (c.month_length.ensures, c.is_leap.ensures) at c.if-day-month_length.true in
    next_good x _ r (next_day_law x h) (real_day x r h)

pub returns-then-month-lt12 : goal.returns-then-month-lt12
returns-then-month-lt12 c =
    let x = c.args.self in
    let r = known (goal.at.returns-then-month-lt12 c).Else-not-is_date in
    let h = rw (c.month_length.ensures, c.is_leap.ensures) at c.if-day-month_length.false in
    next_good x _ r (next_month x h c.if-month-lt12.true) (real_month x r c.if-month-lt12.true)

pub overflow_add-year : goal.overflow_add-year
overflow_add-year c = let r = known (goal.at.overflow_add-year c).Else-not-is_date in omega (arith, r.high)

pub returns : goal.returns
returns c =
    let r = known (goal.at.returns c).Else-not-is_date in
    let h = rw (c.month_length.ensures, c.is_leap.ensures) at c.if-day-month_length.false in
    c.new.ensures ∙ next_last c.args.self r h c.if-month-lt12.false
