-- A holiday that is asked for: which refusal comes first, and what is answered where none does. Assumes nothing.
use Rattle.std.specs.Prelude.{Err, Ok}
use Prim.Native.Nat.{ℕ}
use mathlib.Core.Path.{◌≡◌, ◌∙◌}
use mathlib.Core.Bool.{Bool, true}
use mathlib.Core.List.{List}
use Rattle.paper.specs.declared.Refusal.{Refusal}
use Rattle.paper.specs.Answers.{then}
use Rattle.conversion.specs.Calendar.{Calendar, bs, to_day}
use Rattle.rules.specs.declared.Rule.{Rule}
use Rattle.rules.specs.Lent.{accepting}
use Rattle.rules.specs.Sky.{Sky}
use Rattle.rules.specs.Festivals.{day_list}
use Rattle.rules.proofs.Lent.{accepted_both, lent_on, lent_told, lent_not}
use Rattle.rules.proofs.Questions.{then_by}
use Rattle.grid.specs.Cells.{holiday_of}
use Rattle.holiday.specs.Holiday.{holiday_by}
use Rattle.festivals.proofs.Numbered.{to_numbered}

module _ {I : Type 0} (s : Sky I) (c : Calendar) (rs : List Rule) (ok : Bool) (y m d : ℕ) where
  -- what is lent is refused
  pub not_lent : (k : Refusal) → Err k ≡ accepting c ok → holiday_by s c rs ok y m d ≡ Err k
  unfolding holiday_by
  not_lent k e = lent_not c ok _ k e

  -- what is answered was asked of good rules
  pub rules_good : {b : Bool} → holiday_by s c rs ok y m d ≡ Ok b → ok ≡ true
  unfolding holiday_by
  rules_good e = (lent_told c ok _ e).1

  module _ (g : c.good ≡ true) (o : ok ≡ true) where
    pub by_day : holiday_by s c rs ok y m d ≡ then (to_day c y m d) (λ n. Ok (holiday_of n (day_list s c rs (bs y m d) n)))
    unfolding holiday_by
    by_day = lent_on c ok _ g o

    pub on_day : (n : ℕ) → to_day c y m d ≡ Ok n → holiday_by s c rs ok y m d ≡ Ok (holiday_of n (day_list s c rs (bs y m d) n))
    on_day n e = by_day ∙ then_by (to_day c y m d) _ n e

-- what a holiday that is asked for stands on
pub ruleset asked = (accepted_both, to_numbered, not_lent, by_day)
