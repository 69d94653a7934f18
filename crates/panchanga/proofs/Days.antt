-- What a date's number tells of the date. Assumes nothing.
use Rattle.std.specs.Prelude.{Ok}
use Rattle.paper.specs.Answers.{Answer}
use Rattle.std.proofs.Common.{◌≡◌, ℕ, ◌+◌, ◌<◌, T, sym, ◌∙◌, subst, arith}
use Rattle.paper.specs.declared.Refusal.TheVariants.{NoSuchDate}
use Rattle.paper.proofs.Answers.{answered_same, given_answered}
use Rattle.gregorian.specs.declared.Date.{Date}
use Rattle.gregorian.specs.Calendar.{day_number}
use Rattle.gregorian.specs.Answers.{real, number_answer}
use Rattle.gregorian.proofs.Laws.{real_of, number_below, all_number}

-- there is room for one more
pub number_room : (x : Date) (a : Answer ℕ) (n : ℕ) → a ≡ number_answer x → a ≡ Ok n → n + 1 < 4294967296
number_room x a n h e =
    let g = given_answered (real x) NoSuchDate (Ok (day_number x)) (sym h ∙ e) in
    omega (arith, number_below x (real_of x (subst T (sym g.0) tt)), all_number, answered_same g.1)
