-- The number of the day in Nepal at an instant. Assumes nothing.
use Rattle.std.specs.Prelude.{Err, Ok, Some}
use Prim.Native.Nat.{ℕ, ◌+◌, ◌≤◌, ◌<◌}
use mathlib.Core.Path.{◌≡◌}
use mathlib.Core.Bool.{Bool, true}
use lib.Ieee.{Float}
use native.Mathlib.Omega.{arith}
use lib.Dec.{T}
use Rattle.paper.specs.declared.Refusal.TheVariants.{NoSuchDate}
use Rattle.paper.specs.Answers.{Answer, then}
use Rattle.paper.proofs.Answers.{answered_same, given_answered}
use Rattle.gregorian.specs.declared.Date.{Date}
use Rattle.gregorian.specs.Calendar.{first_number, all_days, day_number}
use Rattle.gregorian.specs.Answers.{real, number_answer}
use Rattle.gregorian.specs.Instants.{npt_answer}
use Rattle.gregorian.proofs.Laws.{real_of, number_above, number_below, all_number}
use Rattle.festivals.specs.Kathmandu.{nepal_day}
use Rattle.festivals.proofs.Oks.{ok_some}
use Rattle.festivals.proofs.Kalas.{begins_named, asked_named}

pub real_told : (b : Bool) → b ≡ true → T b
real_told b e = rw e tt

number_range : (d : Date) (n : ℕ) → number_answer d ≡ Ok n → (first_number ≤ n) × (n < first_number + all_days)
number_range d n e =
    let g = given_answered (real d) NoSuchDate (Ok (day_number d)) e in
    let q : day_number d ≡ n = answered_same g.1 in
    rw (← q) (number_above d, number_below d (real_of d (real_told (real d) g.0)))

dated_range : (a : Answer Date) (n : ℕ) → then a number_answer ≡ Ok n → (first_number ≤ n) × (n < first_number + all_days)
dated_range (Ok d) n e = number_range d n e
dated_range (Err k) n e = absurd (let z : ◌≡◌ {A = ℕ} 0 1 = cc in omega arith)

pub nepal_range : (x : Float) (n : ℕ) → Some n ≡ nepal_day x → (2415021 ≤ n) × (n < 2506332)
unfolding nepal_day
nepal_range x n e =
    let r = dated_range (npt_answer x) n (ok_some _ e) in
    (r.0, omega (arith, r.1, all_number))

-- what the day of a festival stands on: its kala, and the number of the day on which it begins
pub ruleset of_kala = (begins_named, asked_named, nepal_range)
