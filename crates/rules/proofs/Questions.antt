-- The two questions of a day's list, case by case. Assumes nothing.
use Rattle.std.specs.Prelude.{Err, Ok}
use Prim.Native.Nat.{ℕ}
use mathlib.Core.Path.{◌≡◌, refl, sym, ◌∙◌}
use mathlib.Core.Bool.{Bool, true, false}
use native.Mathlib.Omega.{arith}
use mathlib.Core.List.{List}
use Rattle.paper.specs.declared.Refusal.{Refusal}
use Rattle.paper.specs.declared.Refusal.TheVariants.{BadTable, BadRules, NoSuchDate}
use Rattle.paper.specs.Refusals.{number}
use Rattle.paper.specs.Answers.{Answer, given, then}
use Rattle.paper.proofs.Answers.{given_on, then_answered, then_refused, refused_answered}
use Rattle.paper.proofs.Days.{same_number, refused_as}
use Rattle.gregorian.specs.Calendar.{is_date, day_number}
use Rattle.gregorian.specs.Answers.{number_answer}
use Rattle.conversion.specs.Calendar.{Calendar, bs, to_day, from_day}
use Rattle.conversion.specs.Flat.{date}
use Rattle.rules.specs.declared.Rule.{Rule}
use Rattle.rules.specs.Lent.{accepting}
use Rattle.rules.specs.Sky.{Sky}
use Rattle.rules.specs.Festivals.{day_list, listOnBs, listOnAd}
use Rattle.rules.proofs.Lent.{given_not, lent_on, lent_not}

-- what a step makes of an answer that is known
pub then_by : {A B : Type 0} (a : Answer A) (f : A → Answer B) (x : A) → a ≡ Ok x → then a f ≡ f x
then_by a f x e = rw e (then_answered x f)

pub then_not : {A B : Type 0} (a : Answer A) (f : A → Answer B) (k : Refusal) → a ≡ Err k → then a f ≡ Err k
then_not a f k e = rw e (then_refused k f)

module _ {I : Type 0} (s : Sky I) (c : Calendar) (rs : List Rule) (ok : Bool) (y m d : ℕ) where
  -- what is lent is refused
  pub bs_lent : (k : Refusal) → Err k ≡ accepting c ok → listOnBs s c rs ok y m d ≡ Err k
  unfolding listOnBs
  bs_lent k e = lent_not c ok _ k e

  pub ad_lent : (k : Refusal) → Err k ≡ accepting c ok → listOnAd s c rs ok y m d ≡ Err k
  unfolding listOnAd
  ad_lent k e = lent_not c ok _ k e

  module _ (g : c.good ≡ true) (o : ok ≡ true) where
    pub on_bs_law : listOnBs s c rs ok y m d ≡ then (to_day c y m d) (λ n. Ok (day_list s c rs (bs y m d) n))
    unfolding listOnBs
    on_bs_law = lent_on c ok _ g o

    pub bs_refused : (k : Refusal) → to_day c y m d ≡ Err k → listOnBs s c rs ok y m d ≡ Err k
    bs_refused k e = on_bs_law ∙ then_not (to_day c y m d) _ k e

    pub bs-list : (n : ℕ) → to_day c y m d ≡ Ok n → listOnBs s c rs ok y m d ≡ Ok (day_list s c rs (bs y m d) n)
    bs-list n e = on_bs_law ∙ then_by (to_day c y m d) _ n e

    -- its date has no number
    pub ad-no-date : (k : Refusal) → Err k ≡ number_answer (date y m d) → listOnAd s c rs ok y m d ≡ Err k
    unfolding listOnAd
    ad-no-date k e = lent_on c ok _ g o ∙ given_not (is_date y m d) NoSuchDate k _ _ e

    module _ (h : is_date y m d ≡ true) where
      pub on_ad_law : listOnAd s c rs ok y m d ≡ then (from_day c (day_number (date y m d))) (λ t. Ok (day_list s c rs t (day_number (date y m d))))
      unfolding listOnAd
      on_ad_law = lent_on c ok _ g o ∙ given_on (is_date y m d) NoSuchDate _ h

      -- the list of a day by its number
      pub ad-list : (n : ℕ) → n ≡ day_number (date y m d) → listOnAd s c rs ok y m d ≡ then (from_day c n) (λ t. Ok (day_list s c rs t n))
      ad-list n q = on_ad_law ∙ rw q

-- a test that passes, or the refusal behind it
given_past : {A : Type 0} (b : Bool) (j k : Refusal) (a : Answer A) → (number j ≡ number k → ⊥) → given b j a ≡ Err k → (b ≡ true) × (a ≡ Err k)
given_past true j k a n e = (refl, e)
given_past false j k a n e = absurd (n (same_number e))

-- what refuses a step's answer, where the step itself refuses nothing, refuses what it goes on from
then_past : {A B : Type 0} (a : Answer A) (f : A → B) (k : Refusal) → then a (λ x. Ok (f x)) ≡ Err k → a ≡ Err k
then_past (Ok x) f k e = absurd (refused_answered e refl)
then_past (Err j) f k e = refused_as e

module _ {I : Type 0} (s : Sky I) (c : Calendar) (rs : List Rule) (ok : Bool) (y m d : ℕ) where
  -- where a list is refused with 7 the rules are good, the date is one, and its day is refused with the same
  pub ad_outside : (k : Refusal) → c.good ≡ true → number k ≡ 7 → listOnAd s c rs ok y m d ≡ Err k
      → (ok ≡ true) × (is_date y m d ≡ true) × (from_day c (day_number (date y m d)) ≡ Err k)
  unfolding listOnAd
  ad_outside k g n e =
      let p = given_past ok BadRules k _ (λ z. omega arith) (sym (given_on c.good BadTable _ g) ∙ e) in
      let q = given_past (is_date y m d) NoSuchDate k _ (λ z. omega arith) p.1 in
      (p.0, q.0, then_past (from_day c (day_number (date y m d))) _ k q.1)
