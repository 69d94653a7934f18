-- The month of a day's BS date. Assumes nothing.
use Rattle.std.specs.Prelude.{Ok}
use Prim.Native.Nat.{ℕ, ◌-◌, ◌≤◌}
use mathlib.Core.Path.{◌≡◌, sym, ◌∙◌}
use native.Mathlib.Omega.{arith}
use Rattle.paper.specs.Sums.{sum}
use Rattle.paper.proofs.Answers.{answered_same}
use Rattle.conversion.specs.declared.BsDate.{BsDate}
use Rattle.conversion.specs.Calendar.{Calendar, year_len, last, date_after, from_day}
use Rattle.conversion.proofs.Places.{last_within}
use Rattle.conversion.proofs.Days.{found, on_table}

-- the month of a date is 1 to 12
pub month_of_law : (c : Calendar) (n : ℕ) (t : BsDate) → from_day c n ≡ Ok t → (1 ≤ t.month) × (t.month ≤ 12)
month_of_law c n t e =
    let o = on_table c n t e in
    let r = n - c.start in
    let w = last_within (year_len c) c.years r (omega (arith, o.from, o.to)) in
    let i = last (year_len c) c.years r in
    let v = last_within (c.len i) 12 (r - sum (year_len c) i) (omega (arith, w.from, w.to)) in
    let q : t ≡ date_after c r = answered_same (sym e ∙ found c n o) in
    rw q (omega arith, omega (arith, v.below))
