-- DEMAND 3 FOR A KEPT ARRAY: each question to an array that holds a state with a row, and to one that holds the state after an answered row more, which
-- panel_kept_append_row leaves: its number and all that it leaves in lent places and buffers. Assumes nothing.
use Rattle.std.specs.Prelude.{Ok}
use Prim.Native.Nat.{ℕ}
use mathlib.Core.Path.{◌≡◌, refl, ap}
use mathlib.Core.List.{List, []}
use mathlib.Core.Logic.Iff
use Rattle.gregorian.specs.declared.Date.{Date}
use Rattle.gregorian.specs.Calendar.{day_number}
use Rattle.conversion.specs.Flat.{date}
use Rattle.conversion.specs.Claims.{Added}
use Rattle.conversion.proofs.Days.{outside_number}
use Rattle.rules.specs.Longer.{AddedDay}
use Rattle.rules.specs.Festivals.{Listed}
use Rattle.grid.specs.Month.{Shown}
use Rattle.kept.specs.State.{State, calendar}
use Rattle.kept.specs.Operations.{append_row}
use Rattle.steady.specs.Composed.{Place, ref, mut_ref}
use Rattle.steady.specs.Kept.{KeptSteady}
use Rattle.steady.proofs.Kept.{kept_steady}
use Rattle.shelf.specs.Numbers.{Made}
use Rattle.panel.specs.Boundary.{gives, days_in, gives_told, numbers, bs_numbers, month_numbers}
use Rattle.panel.specs.Lent.{MonthState, three, dated, listed, listed_ad, month, lend_three, lend_dated, lend_list, lend_list_ad, lend_month}
use Rattle.panel.specs.Claims.{Grows}
use Rattle.panel.proofs.Crossing.{Told, gives_code, told_code, told_list, told_list_ad, told_month}
use Rattle.panel.proofs.Longer.{grows}
use Rattle.panel.proofs.kept_lists.panel_kept_festivals_on.Reads as FestivalsOn
use Rattle.panel.proofs.kept_lists.panel_kept_festivals_on_ad.Reads as FestivalsOnAd
use Rattle.panel.proofs.kept_months.panel_kept_month_grid.Reads as MonthGrid
use Rattle.panel.proofs.kept_dates.panel_kept_bs_to_ad.Reads as BsToAd
use Rattle.panel.proofs.kept_dates.panel_kept_ad_to_bs.Reads as AdToBs

-- what is told beside the array
but_array : {P X : Type 0} {x y : Told (P × (X × List ℕ))} → x ≡ y → ◌≡◌ {A = Told (P × X)} (x.0, (x.1.0, x.1.1.0)) (y.0, (y.1.0, y.1.1.0))
but_array {P} {X} e = ap (λ (z : Told (P × (X × List ℕ))). (z.0, (z.1.0, z.1.1.0))) e

-- a state with a row, and the state after one more; an array for each, lent at any two places; all else is lent with the same numbers, at any places
module _ (σ : State) (some : σ.rows ≡ [] → ⊥) (row : List ℕ) (done : (append_row σ row).answer ≡ Ok tt) (a b : List ℕ) (m : Made a σ) (n : Made b (append_row σ row).state)
    (p q : Place) (e f : ℕ → Place) where
  grown : KeptSteady σ (append_row σ row).state
  grown = kept_steady σ m.good some row done

  pub festivals_on : (y m d : ℕ) (old : ℕ × List ℕ) → Grows FestivalsOn.Learnt (λ k s. listed s.1.1.1.1)
      (λ k. (mut_ref p a, (y, (m, (d, lend_list e old))))) (λ k. (mut_ref q b, (y, (m, (d, lend_list f old))))) 4 (λ b. Added (calendar σ) y)
  festivals_on y u d old =
      grows {W = Listed} (λ w. w.answer) (λ w. told_list w old.0) (λ w. gives_code w.answer (λ n. n) old.0) refl _ (grown.list y u d old.1) (λ z h. Iff.rfl)
      (λ k x s c. but_array (c.made σ m)) (λ k x s c. but_array (c.made (append_row σ row).state n))

  pub festivals_on_ad : (y m d : ℕ) (old : (ℕ × (ℕ × ℕ)) × List ℕ) → Grows FestivalsOnAd.Learnt (λ k s. listed_ad s.1.1.1.1)
      (λ k. (mut_ref p a, (y, (m, (d, lend_list_ad e old))))) (λ k. (mut_ref q b, (y, (m, (d, lend_list_ad f old))))) 7 (λ b. AddedDay (calendar σ) (calendar (append_row σ row).state) (day_number (date y m d)))
  festivals_on_ad y u d old =
      grows {W = Listed} (λ w. w.answer) (λ w. told_list_ad w old.0) (λ w. told_code days_in (λ n. n) w.answer old.0) (outside_number _ _) _ (grown.list_ad y u d old.1) (λ z h. Iff.rfl)
      (λ k x s c. but_array (c.made σ m)) (λ k x s c. but_array (c.made (append_row σ row).state n))

  pub month_grid_law : (today : Date) (y m : ℕ) (old : MonthState) → Grows MonthGrid.Learnt (λ k s. month s.1.1.1.1.1.1)
      (λ k. (mut_ref p a, (today.year, (today.month, (today.day, (y, (m, lend_month e old)))))))
      (λ k. (mut_ref q b, (today.year, (today.month, (today.day, (y, (m, lend_month f old))))))) 4 (λ b. Added (calendar σ) y)
  month_grid_law today y u old =
      grows {W = Shown} (λ w. w.answer) (λ w. told_month w old.0) (λ w. gives_code w.answer month_numbers old.0) refl _ (grown.month today y u old.1.0 old.1.1) (λ z h. Iff.rfl)
      (λ k x s c. but_array (c.made σ m)) (λ k x s c. but_array (c.made (append_row σ row).state n))

  pub bs_to_ad : (y m d : ℕ) (old : ℕ × ℕ × ℕ) → Grows BsToAd.Learnt (λ k s. three s.1.1.1.1)
      (λ k. (ref p a, (y, (m, (d, lend_three e old))))) (λ k. (ref q b, (y, (m, (d, lend_three f old))))) 4 (λ b. Added (calendar σ) y)
  bs_to_ad y u d old =
      grows (λ z. z) (λ z. gives z numbers old) (λ z. gives_code z numbers old) refl _ (grown.to_ad_law y u d) (λ z h. Iff.rfl)
      (λ k x s c. c.made σ m) (λ k x s c. c.made (append_row σ row).state n)

  -- the BS year is the first place
  pub ad_to_bs : (y m d : ℕ) (old : (ℕ × ℕ × ℕ) × (ℕ × ℕ)) → Grows AdToBs.Learnt (λ k s. dated s.1.1.1.1)
      (λ k. (ref p a, (y, (m, (d, lend_dated e old))))) (λ k. (ref q b, (y, (m, (d, lend_dated f old))))) 7 (λ b. Added (calendar σ) b.0.0)
  ad_to_bs y u d old =
      grows (λ z. z) (λ z. gives_told days_in z bs_numbers old) (λ z. told_code days_in bs_numbers z old) (outside_number _ _) _ (grown.to_bs y u d) (λ z h. rw h Iff.rfl)
      (λ k x s c. c.made σ m) (λ k x s c. c.made (append_row σ row).state n)
