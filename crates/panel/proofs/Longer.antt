-- DEMAND 3 AT THE BOUNDARY, for each C function that answers by a lent year table: its number and all that it leaves in lent places and buffers, under a table
-- and under the same table with more rows, both accepted. Assumes nothing.
use Rattle.std.specs.Prelude.{Ok}
use Prim.Native.Nat.{ℕ}
use mathlib.Core.Path.{◌≡◌, refl, sym, ap, ◌∙◌}
use mathlib.Core.Bool.{true}
use mathlib.Core.List.{List, [], ◌++◌}
use mathlib.Core.Logic.Iff
use mathlib.Core.Logic.{◌↔◌}
use lib.IntN.{ℤ}
use Rattle.paper.specs.declared.Refusal.{Refusal}
use Rattle.paper.specs.Answers.{Answer}
use Rattle.paper.specs.Refusals.{number}
use Rattle.gregorian.specs.declared.Date.{Date}
use Rattle.gregorian.specs.Calendar.{day_number}
use Rattle.conversion.specs.declared.Table.{Table}
use Rattle.conversion.specs.Flat.{accepted, flat, date}
use Rattle.conversion.specs.Claims.{Added}
use Rattle.conversion.proofs.Days.{outside_number}
use Rattle.rules.specs.Longer.{AddedDay}
use Rattle.rules.specs.Festivals.{Listed}
use Rattle.grid.specs.Cells as Cells
use Rattle.grid.specs.Month.{Shown}
use Rattle.steady.specs.Composed.{Place, ref}
use Rattle.steady.specs.Steady.{Stays, Steady}
use Rattle.steady.proofs.Steady.{steady}
use Rattle.steady.proofs.Composed.{any}
use Rattle.panel.specs.Boundary.{code, gives, days_in, gives_told, numbers, bs_numbers, month_of, month_numbers}
use Rattle.panel.specs.Lent.{MonthState, one, two, three, dated, listed, listed_ad, month, lend_table, lend_one, lend_two, lend_three, lend_dated, lend_list, lend_list_ad, lend_month}
use Rattle.panel.specs.Claims.{NumberIf, Grows}
use Rattle.panel.proofs.Crossing.{Told, zero_answered, other_refused, gives_code, told_code, told_list, told_list_ad, told_month, beside}
use Rattle.panel.proofs.Handing.{both}
use Rattle.panel.proofs.conversions.panel_bs_month_len.Reads as BsMonthLen
use Rattle.panel.proofs.conversions.panel_validate_bs_date.Reads as ValidateBsDate
use Rattle.panel.proofs.conversions.panel_bs_to_ad.Reads as BsToAd
use Rattle.panel.proofs.conversions.panel_ad_to_bs.Reads as AdToBs
use Rattle.panel.proofs.months.panel_step_month.Reads as StepMonth
use Rattle.panel.proofs.day_lists.panel_festivals_on.Reads as FestivalsOn
use Rattle.panel.proofs.day_lists.panel_festivals_on_ad.Reads as FestivalsOnAd
use Rattle.panel.proofs.holidays.panel_is_holiday.Reads as IsHoliday
use Rattle.panel.proofs.months.panel_month_grid.Reads as MonthGrid

-- ---- THE LAW. `answer` reads the answer of all that the definition tells, `told` the number and what is then lent.
module _ {W X B : Type 0} (answer : W → Answer X) (told : W → Told B) (coded : (w : W) → (told w).0 ≡ code (answer w)) where
  module _ {short long : W} {k : Refusal} {P : X → Type 0} (stays : Stays answer short long k P) {x y : ℕ} {u v : B}
      (p : ◌≡◌ {A = Told B} (x, u) (told short)) (q : ◌≡◌ {A = Told B} (y, v) (told long)) where
    number_short : x ≡ code (answer short)
    number_short = ap (λ (z : Told B). z.0) p ∙ coded short

    number-long : y ≡ code (answer long)
    number-long = ap (λ (z : Told B). z.0) q ∙ coded long

    stays_same : x ≡ 0 → (y ≡ 0) × (v ≡ u)
    stays_same h =
        let a = zero_answered (answer short) (sym number_short ∙ h) in
        let e : ◌≡◌ {A = Told B} (y, v) (x, u) = q ∙ ap told (stays.same a.0 a.1) ∙ sym p in
        (ap (λ (z : Told B). z.0) e ∙ h, ap (λ (z : Told B). z.1) e)

    -- Q says of what is written what P says of the answer
    stays-added : (Q : B → Type 0) → ((z : X) → answer long ≡ Ok z → P z ↔ Q (told long).1) → y ≡ 0 → NumberIf x (number k) (Q v)
    stays-added Q f h =
        let a = zero_answered (answer long) (sym number-long ∙ h) in
        let r = stays.added a.0 a.1 in
        let g = f a.0 a.1 in
        let e : v ≡ (told long).1 = ap (λ (z : Told B). z.1) q in
        record {
          when = λ z. number_short ∙ ap code (r.when (g.1 (rw e at z)));
          only = λ n. let j = other_refused (answer short) (λ z. n (number_short ∙ z)) in rw e (g.0 (r.only j.0 j.1));
        }

number_as : {x m n : ℕ} {P : Type 0} → m ≡ n → NumberIf x m P → NumberIf x n P
number_as e r = record { when = λ p. r.when p ∙ e; only = r.only }

-- the same of a contract: two calls whose numbers and lent places are what is told
pub grows : {K : Type 0} {A S : K → Type 0} {B W X : Type 0} {C : (k : K) → A k → ℕ → S k → Type 0} {after : (k : K) → S k → B} {a b : (k : K) → A k}
    (answer : W → Answer X) (told : W → Told B) → ((w : W) → (told w).0 ≡ code (answer w))
    → {short long : W} {k : Refusal} {n : ℕ} {P : X → Type 0} → number k ≡ n → (Q : B → Type 0) → Stays answer short long k P → ((z : X) → answer long ≡ Ok z → P z ↔ Q (told long).1)
    → ((k : K) (x : ℕ) (s : S k) → C k (a k) x s → ◌≡◌ {A = Told B} (x, after k s) (told short))
    → ((k : K) (x : ℕ) (s : S k) → C k (b k) x s → ◌≡◌ {A = Told B} (x, after k s) (told long))
    → Grows C after a b n Q
grows answer told coded e Q stays f p q =
    record {
      same = λ k l x y s t c d. stays_same answer told coded stays (p k x s c) (q l y t d);
      added = λ k l x y s t c d h. number_as e (stays-added answer told coded stays (p k x s c) (q l y t d) Q f h);
    }

-- a table and the same with more rows, both accepted, lent at any two places; all else is lent with the same numbers, at any places
module _ (t : Table) (rows more : List ℕ) (good : accepted t rows ≡ true) (longer : accepted t (rows ++ more) ≡ true) (p q : Place) (e f : ℕ → Place) where
  plain : Steady t rows more [] any
  plain = steady t rows more [] any good longer

  pub bs_month_len : (y m : ℕ) (old : ℕ) → Grows BsMonthLen.Learnt (λ k s. one s.1.1.1.1.1.1.1)
      (λ k. lend_table t p rows (y, (m, lend_one e old))) (λ k. lend_table t q (rows ++ more) (y, (m, lend_one f old))) 4 (λ b. Added (flat t rows) y)
  bs_month_len y m old =
      grows (λ z. z) (λ z. gives z (λ x. x) old) (λ z. gives_code z (λ x. x) old) refl _ (plain.month_len_law y m) (λ z h. Iff.rfl) (λ k x s c. c) (λ k x s c. c)

  pub validate_bs_date : (y m d : ℕ) → Grows {B = Unit} ValidateBsDate.Learnt (λ k s. tt)
      (λ k. lend_table t p rows (y, (m, (d, tt)))) (λ k. lend_table t q (rows ++ more) (y, (m, (d, tt)))) 4 (λ b. Added (flat t rows) y)
  validate_bs_date y m d =
      grows (λ z. z) (λ z. (code z, tt)) (λ z. refl) refl _ (plain.valid y m d) (λ z h. Iff.rfl) (λ k x s c. both c refl) (λ k x s c. both c refl)

  pub bs_to_ad : (y m d : ℕ) (old : ℕ × ℕ × ℕ) → Grows BsToAd.Learnt (λ k s. three s.1.1.1.1.1.1.1.1)
      (λ k. lend_table t p rows (y, (m, (d, lend_three e old)))) (λ k. lend_table t q (rows ++ more) (y, (m, (d, lend_three f old)))) 4 (λ b. Added (flat t rows) y)
  bs_to_ad y m d old =
      grows (λ z. z) (λ z. gives z numbers old) (λ z. gives_code z numbers old) refl _ (plain.to_ad_law y m d) (λ z h. Iff.rfl) (λ k x s c. c) (λ k x s c. c)

  -- the BS year is the first place
  pub ad_to_bs : (y m d : ℕ) (old : (ℕ × ℕ × ℕ) × (ℕ × ℕ)) → Grows AdToBs.Learnt (λ k s. dated s.1.1.1.1.1.1.1.1)
      (λ k. lend_table t p rows (y, (m, (d, lend_dated e old)))) (λ k. lend_table t q (rows ++ more) (y, (m, (d, lend_dated f old)))) 7 (λ b. Added (flat t rows) b.0.0)
  ad_to_bs y m d old =
      grows (λ z. z) (λ z. gives_told days_in z bs_numbers old) (λ z. told_code days_in bs_numbers z old) (outside_number _ _) _ (plain.to_bs y m d) (λ z h. rw h Iff.rfl) (λ k x s c. c) (λ k x s c. c)

  -- the year is the first place
  pub step_month_law : (y m : ℕ) (i : ℤ) (old : ℕ × ℕ) → Grows StepMonth.Learnt (λ k s. two s.1.1.1.1.1.1.1.1)
      (λ k. lend_table t p rows (y, (m, (i, lend_two e old)))) (λ k. lend_table t q (rows ++ more) (y, (m, (i, lend_two f old)))) 10 (λ b. Added (flat t rows) b.0)
  step_month_law y m i old =
      grows (λ z. z) (λ z. gives z month_of old) (λ z. gives_code z month_of old) refl _ (plain.step y m i) (λ z h. rw h Iff.rfl) (λ k x s c. c) (λ k x s c. c)

  -- ---- rules and buffers
  module _ (rules : List ℕ) (a b : Place) where
    pub festivals_on : (y m d : ℕ) (old : ℕ × List ℕ) → Grows FestivalsOn.Learnt (λ k s. listed s.1.1.1.1.1.1.1.1.1)
        (λ k. lend_table t p rows (ref a rules, (y, (m, (d, lend_list e old))))) (λ k. lend_table t q (rows ++ more) (ref b rules, (y, (m, (d, lend_list f old))))) 4 (λ b. Added (flat t rows) y)
    festivals_on y m d old =
        grows {W = Listed} (λ w. w.answer) (λ w. told_list w old.0) (λ w. gives_code w.answer (λ n. n) old.0) refl _ ((steady t rows more rules any good longer).list y m d old.1) (λ z h. Iff.rfl)
        (λ k x s c. beside c) (λ k x s c. beside c)

    pub festivals_on_ad : (y m d : ℕ) (old : (ℕ × (ℕ × ℕ)) × List ℕ) → Grows FestivalsOnAd.Learnt (λ k s. listed_ad s.1.1.1.1.1.1.1.1.1)
        (λ k. lend_table t p rows (ref a rules, (y, (m, (d, lend_list_ad e old))))) (λ k. lend_table t q (rows ++ more) (ref b rules, (y, (m, (d, lend_list_ad f old))))) 7
        (λ b. AddedDay (flat t rows) (flat t (rows ++ more)) (day_number (date y m d)))
    festivals_on_ad y m d old =
        grows {W = Listed} (λ w. w.answer) (λ w. told_list_ad w old.0) (λ w. told_code days_in (λ n. n) w.answer old.0) (outside_number _ _) _ ((steady t rows more rules any good longer).list_ad y m d old.1) (λ z h. Iff.rfl)
        (λ k x s c. beside c) (λ k x s c. beside c)

    pub is_holiday : (y m d : ℕ) (old : ℕ) → Grows IsHoliday.Learnt (λ k s. one s.1.1.1.1.1.1.1.1.1)
        (λ k. lend_table t p rows (ref a rules, (y, (m, (d, lend_one e old))))) (λ k. lend_table t q (rows ++ more) (ref b rules, (y, (m, (d, lend_one f old))))) 4 (λ b. Added (flat t rows) y)
    is_holiday y m d old =
        grows (λ z. z) (λ z. gives z Cells.one old) (λ z. gives_code z Cells.one old) refl _ ((steady t rows more rules any good longer).holiday y m d) (λ z h. Iff.rfl)
        (λ k x s c. c) (λ k x s c. c)

    pub month_grid_law : (today : Date) (y m : ℕ) (old : MonthState) → Grows MonthGrid.Learnt (λ k s. month s.1.1.1.1.1.1.1.1.1.1.1)
        (λ k. lend_table t p rows (ref a rules, (today.year, (today.month, (today.day, (y, (m, lend_month e old)))))))
        (λ k. lend_table t q (rows ++ more) (ref b rules, (today.year, (today.month, (today.day, (y, (m, lend_month f old))))))) 4 (λ b. Added (flat t rows) y)
    month_grid_law today y m old =
        grows {W = Shown} (λ w. w.answer) (λ w. told_month w old.0) (λ w. gives_code w.answer month_numbers old.0) refl _ ((steady t rows more rules today good longer).month y m old.1.0 old.1.1)
        (λ z h. Iff.rfl) (λ k x s c. beside c) (λ k x s c. beside c)
