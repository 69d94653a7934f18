use Rattle.std.proofs.Common.{◌+◌, ◌/◌, ◌<◌, ◌≤◌, ap, inl, inr, eq-or-lt_of_le, arith}
use Rattle.gregorian.specs.Calendar.{year_start}
use Rattle.gregorian.proofs.Laws.{all_number, all_is, years_low, years_high}
use Rattle.gregorian.proofs.year_of.Goals as goal

pub year_start-requires : goal.year_start-requires
year_start-requires c = omega (arith, all_number)

pub returns-then-year_start-n : goal.returns-then-year_start-n
returns-then-year_start-n c =
    let n = c.args.n in
    let p = c.requires in
    let t : year_start (n / 366 + 1) ≤ n = rw c.year_start.ensures at c.if-year_start-n.true in
    let a : n / 366 + 1 ≤ 250 = omega (arith, all_number) in
    let b : n / 366 + 1 < 250 =
    elim (eq-or-lt_of_le a) [ inr g ↦ g | inl e ↦ absurd (let u = ap year_start e in omega (arith, all_is)) ] in
    (b, t, (let s = years_low (n / 366 + 1 + 1) in omega arith))

pub returns : goal.returns
returns c =
    let n = c.args.n in
    let t : n < year_start (n / 366 + 1) = rw c.year_start.ensures at c.if-year_start-n.false in
    let p = c.requires in
    let b : n / 366 < 250 = omega (arith, all_number) in
    (b, (let s = years_high (n / 366) in omega arith), t)
