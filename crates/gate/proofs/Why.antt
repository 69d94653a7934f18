-- The reason of a date: from what was stored and found, and that there is one exactly if the date is a holiday. Assumes nothing.
use Rattle.std.specs.Prelude.{Err, Ok, None, Option, Some}
use Prim.Native.Nat.{ℕ, suc, ◌+◌, ◌-◌, ◌*◌, ◌≤◌, ◌<◌}
use mathlib.Core.Path.{◌≡◌, refl, sym, ap, ◌∙◌}
use mathlib.Core.Bool.{Bool, true, false, cond, ◌||◌}
use mathlib.Core.List.{List, [], ◌∷◌, ◌++◌}
use native.Mathlib.Nat.{add-zero}
use native.Mathlib.Omega.{arith}
use borrow.Author.Tests.{eq-eqb, ne_eqb}
use lib.Dec.{eqb}
use lib.ListN.{length, get_or, drop}
use lib.Seq.{sets, get_or-drop, drop-drop}
use Rattle.paper.specs.declared.Refusal.{Refusal}
use Rattle.paper.specs.declared.Refusal.TheVariants.{BadTable, BadRules}
use Rattle.paper.specs.Answers.{Answer, given, then}
use Rattle.paper.proofs.Answers.{given_then}
use Rattle.paper.proofs.Stores.{sets_front}
use Rattle.gregorian.specs.Calendar.{weekday_of}
use Rattle.conversion.specs.Calendar.{Calendar, bs, to_day}
use Rattle.conversion.specs.Flat.{flat}
use Rattle.rules.specs.Lent.{accepting}
use Rattle.rules.specs.Rules.{rules_of, accepted_rules}
use Rattle.rules.specs.Festivals.{Pair, numbers}
use Rattle.rules.proofs.Lent.{lent_on, lent_not}
use Rattle.rules.proofs.Listed.{numbers_length}
use Rattle.rules.proofs.Questions.{then_by, then_not}
use Rattle.festivals.specs.Kathmandu.{day_list_of}
use Rattle.grid.specs.Cells.{saturday, any_holiday, holiday_of}
use Rattle.holiday.specs.Holiday.{holiday_by}
use Rattle.gate.specs.declared.reasons.Reason.{Reason}
use Rattle.gate.specs.declared.reasons.Reason.TheVariants.{Saturday, Festival}
use Rattle.gate.specs.Claims.{is_yes, YesExactly}
use Rattle.gate.specs.Inner.{marked_from}
use Rattle.gate.specs.Reasons.{first_holiday, reason_of, reason_under}

-- ---- the loop over the pairs

marked_suc : (xs : List ℕ) (i k : ℕ) → marked_from xs i (suc k) ≡ cond (eqb (get_or xs (i * 2 + 1) 0) 1) (Some (Festival (get_or xs (i * 2) 0))) (marked_from xs (i + 1) k)
unfolding marked_from
marked_suc xs i k = refl

pub marked_none : (xs : List ℕ) (i k : ℕ) (r : Option Reason) → k ≡ 0 → marked_from xs i k ≡ r → None ≡ r
unfolding marked_from
marked_none xs i k r e q = rw e at q

module _ (xs : List ℕ) (i n : ℕ) (h : i < n) (r : Option Reason) (q : marked_from xs i (n - i) ≡ r) where
  turn : cond (eqb (get_or xs (i * 2 + 1) 0) 1) (Some (Festival (get_or xs (i * 2) 0))) (marked_from xs (i + 1) (n - (i + 1))) ≡ r
  turn =
      let e : n - i ≡ suc (n - (i + 1)) = omega arith in
      sym (ap (marked_from xs i) e ∙ marked_suc xs i (n - (i + 1))) ∙ q

  pub marked_here : get_or xs (i * 2 + 1) 0 ≡ 1 → Some (Festival (get_or xs (i * 2) 0)) ≡ r
  marked_here e = rw (eq-eqb (get_or xs (i * 2 + 1) 0) 1 e) at turn

  pub marked_on : (get_or xs (i * 2 + 1) 0 ≡ 1 → ⊥) → marked_from xs (i + 1) (n - (i + 1)) ≡ r
  marked_on e = rw (ne_eqb (get_or xs (i * 2 + 1) 0) 1 e) at turn

-- ---- a list that stands in a buffer

found : (l : List Pair) (xs ys : List ℕ) (i : ℕ) → drop (i * 2) xs ≡ numbers l ++ ys → marked_from xs i (length l) ≡ first_holiday l
unfolding marked_from first_holiday
found [] xs ys i e = refl
found (a ∷ l) xs ys i e =
    let name : get_or xs (i * 2) 0 ≡ a.0 = ap (λ (k : ℕ). get_or xs k 0) (sym (add-zero (i * 2))) ∙ sym (get_or-drop (i * 2) xs 0 0) ∙ ap (λ (z : List ℕ). get_or z 0 0) e in
    let mark : get_or xs (i * 2 + 1) 0 ≡ a.1 = sym (get_or-drop (i * 2) xs 1 0) ∙ ap (λ (z : List ℕ). get_or z 1 0) e in
    let f : (i + 1) * 2 ≡ i * 2 + 2 = omega arith in
    let later : drop ((i + 1) * 2) xs ≡ numbers l ++ ys = ap (λ (k : ℕ). drop k xs) f ∙ sym (drop-drop 2 (i * 2) xs) ∙ ap (drop 2) e in
    rw (name, mark, found l xs ys (i + 1) later)

-- a list stored at the front, where it fits
pub stored : (l : List Pair) (xs ys : List ℕ) (n : ℕ) → ys ≡ sets xs 0 (numbers l) → n ≡ 0 + length l → n * 2 ≤ length xs → marked_from ys 0 n ≡ first_holiday l
stored l xs ys n p q h =
    let e : n ≡ length l = omega arith in
    let w : ys ≡ numbers l ++ drop (length (numbers l)) xs = p ∙ sets_front (numbers l) xs (omega (arith, numbers_length l)) in
    rw e (found l ys (drop (length (numbers l)) xs) 0 w)

-- ---- a day

module _ (n w : ℕ) (l : List Pair) (e : w ≡ weekday_of n) where
  pub on_saturday : w ≡ 6 → Some Saturday ≡ reason_of n l
  unfolding reason_of
  on_saturday h = rw (← e, eq-eqb w 6 h)

  pub by_list : (w ≡ 6 → ⊥) → (r : Option Reason) → r ≡ first_holiday l → r ≡ reason_of n l
  unfolding reason_of
  by_list h r q = rw (← e, ne_eqb w 6 h) q

-- ---- a date

module _ (c : Calendar) (rules : List ℕ) (y m d : ℕ) where
  -- what is lent is refused
  pub not_lent : (k : Refusal) → Err k ≡ accepting c (accepted_rules rules) → Err k ≡ reason_under c rules y m d
  unfolding reason_under
  not_lent k e = sym (lent_not c (accepted_rules rules) _ k e)

  module _ (g : c.good ≡ true) (o : accepted_rules rules ≡ true) where
    by-day : reason_under c rules y m d ≡ then (to_day c y m d) (λ n. Ok (reason_of n (day_list_of c (rules_of rules) (bs y m d) n)))
    unfolding reason_under
    by-day = lent_on c (accepted_rules rules) _ g o

    pub no_day_law : (k : Refusal) → to_day c y m d ≡ Err k → Err k ≡ reason_under c rules y m d
    no_day_law k e = sym (by-day ∙ then_not (to_day c y m d) _ k e)

    pub told-on : (n : ℕ) (r : Option Reason) → to_day c y m d ≡ Ok n → r ≡ reason_of n (day_list_of c (rules_of rules) (bs y m d) n) → Ok r ≡ reason_under c rules y m d
    told-on n r e q = ap Ok q ∙ sym (by-day ∙ then_by (to_day c y m d) _ n e)

-- ---- A REASON IS GIVEN EXACTLY IF THE DATE IS A HOLIDAY

first_yes : (l : List Pair) → is_yes (first_holiday l) ≡ any_holiday l
unfolding first_holiday any_holiday
first_yes [] = refl
first_yes (e ∷ es) = go (eqb e.1 1) (first_yes es)
  where
    go : (b : Bool) → is_yes (first_holiday es) ≡ any_holiday es → is_yes (cond b (Some (Festival e.0)) (first_holiday es)) ≡ (b || any_holiday es)
    go true h = refl
    go false h = h

reason_yes : (n : ℕ) (l : List Pair) → is_yes (reason_of n l) ≡ holiday_of n l
unfolding reason_of
reason_yes n l = go (saturday n)
  where
    go : (b : Bool) → is_yes (cond b (Some Saturday) (first_holiday l)) ≡ (b || any_holiday l)
    go true = refl
    go false = first_yes l

then_yes : (a : Answer ℕ) (p : ℕ → Option Reason) (q : ℕ → Bool) → ((n : ℕ) → is_yes (p n) ≡ q n)
    → then (then a (λ n. Ok (p n))) (λ r. Ok (is_yes r)) ≡ then a (λ n. Ok (q n))
then_yes (Ok n) p q h = ap Ok (h n)
then_yes (Err k) p q h = refl

pub yes_exactly : YesExactly
unfolding reason_under holiday_by
yes_exactly t rows rules y m d =
    let c = flat t rows in
    let day = to_day c y m d in
    let list : ℕ → List Pair = λ n. day_list_of c (rules_of rules) (bs y m d) n in
    given_then c.good BadTable _ _
    ∙ ap (given c.good BadTable)
    (given_then (accepted_rules rules) BadRules _ _
    ∙ ap (given (accepted_rules rules) BadRules) (then_yes day (λ n. reason_of n (list n)) (λ n. holiday_of n (list n)) (λ n. reason_yes n (list n))))
