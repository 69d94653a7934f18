-- DEMAND 3 for the kept state: the questions of a state that holds a row, and of the same after an appended row. Assumes nothing.
use Rattle.std.specs.Prelude.{ℕ, ◌≡◌, List, Ok}
use Rattle.paper.specs.declared.Refusal.TheVariants.{NoYear}
use Rattle.gregorian.specs.declared.Date.{Date}
use Rattle.gregorian.specs.Calendar.{day_number}
use Rattle.conversion.specs.declared.BsDate.{BsDate}
use Rattle.conversion.specs.Calendar.{outside}
use Rattle.conversion.specs.Claims.{Added, added_days}
use Rattle.conversion.specs.Flat.{date}
use Rattle.rules.specs.Longer.{AddedDay}
use Rattle.kept.specs.State.{State, calendar}
use Rattle.kept.specs.Operations.{ask_bs, ask_ad, ask_month}
use Rattle.kept.specs.Converting.{ask_to_ad, ask_from_ad}
use Rattle.steady.specs.Steady.{Stays, AnswerStays, OutsideStays}

-- σ is the state before the row, τ the state after it: the answer and every lent buffer, and the distance that 7 tells
pub record KeptSteady (σ τ : State) : Type 0 where
  pub list : (y m d : ℕ) (out : List ℕ) → Stays (λ w. w.answer) (ask_bs σ y m d out).listed (ask_bs τ y m d out).listed NoYear (λ n. Added (calendar σ) y)
  pub list_ad : (y m d : ℕ) (out : List ℕ) → Stays (λ w. w.answer) (ask_ad σ y m d out).listed (ask_ad τ y m d out).listed
      (outside (calendar σ) (day_number (date y m d))) (λ n. AddedDay (calendar σ) (calendar τ) (day_number (date y m d)))
  pub list_outside : (y m d : ℕ) (out : List ℕ) → OutsideStays (ask_ad σ y m d out).listed.answer (ask_ad τ y m d out).listed.answer
      (added_days (calendar σ) (calendar τ)) (AddedDay (calendar σ) (calendar τ) (day_number (date y m d)))
  pub month : (today : Date) (y m : ℕ) (cells festivals : List ℕ) → Stays (λ w. w.answer) (ask_month σ today y m cells festivals).shown
      (ask_month τ today y m cells festivals).shown NoYear (λ n. Added (calendar σ) y)
  pub to_ad_law : (y m d : ℕ) → AnswerStays (ask_to_ad σ y m d) (ask_to_ad τ y m d) NoYear (λ x. Added (calendar σ) y)
  pub to_bs : (y m d : ℕ) → AnswerStays (ask_from_ad σ y m d) (ask_from_ad τ y m d) (outside (calendar σ) (day_number (date y m d)))
      (λ x. Added (calendar σ) x.year)
  pub bs_outside : (y m d : ℕ) → OutsideStays (ask_from_ad σ y m d) (ask_from_ad τ y m d) (added_days (calendar σ) (calendar τ))
      ((x : BsDate) × ((ask_from_ad τ y m d ≡ Ok x) × Added (calendar σ) x.year))
