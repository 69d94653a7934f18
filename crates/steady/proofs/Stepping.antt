-- A month step under a table and under one with more rows. Assumes nothing.
use Rattle.std.specs.Prelude.{Ok}
use Prim.Native.Nat.{ℕ, ◌+◌, ◌≤◌, ◌<◌}
use mathlib.Core.Path.{◌≡◌, refl, sym, ap, subst, ◌∙◌}
use mathlib.Core.Bool.{true, false, and-false}
use mathlib.Core.Logic.{⊎_elim}
use native.Mathlib.Omega.{arith}
use borrow.Author.Tests.{leb-true, ltb-true, lt-ltb, le-ltb, le-leb}
use lib.Dec.{leb}
use lib.IntN.{ℤ, pos, negsuc, nat_abs}
use Rattle.paper.specs.declared.Refusal.TheVariants.{BadTable, OffTable}
use Rattle.paper.specs.Answers.{given}
use Rattle.paper.proofs.Answers.{answered_same, refused_answered, given_answered, given_on, given_off}
use Rattle.paper.proofs.Tests.{and_left, and_right, split}
use Rattle.conversion.specs.Calendar.{Calendar}
use Rattle.conversion.specs.Claims.{Added, RefusedIf}
use Rattle.conversion.proofs.Longer.{Extends}
use Rattle.grid.specs.declared.BsMonth.{BsMonth}
use Rattle.grid.specs.Step.{absolute, whole_years, months_left, in_years, month_at, step_month}

-- ---- the years of a table

-- one of the years is a number from the first to before the end
in_years_law : (first years : ℕ) (z : ℤ) → in_years first years z ≡ true → (z ≡ pos (nat_abs z)) × (first ≤ nat_abs z) × (nat_abs z < first + years)
in_years_law first years (pos n) e = (refl, leb-true first n (and_left (leb first n) _ e), ltb-true n (first + years) (and_right (leb first n) _ e))
in_years_law first years (negsuc n) e = absurd (let z : ◌≡◌ {A = ℕ} 0 1 = cc in omega arith)

years_in_law : (first years n : ℕ) → first ≤ n → n < first + years → in_years first years (pos n) ≡ true
years_in_law first years n h k = simp (le-leb first n h, lt-ltb n (first + years) k)

years_past : (first years n : ℕ) → first + years ≤ n → in_years first years (pos n) ≡ false
years_past first years n h = simp (le-ltb n (first + years) h, and-false)

-- ---- the month that a step leads to

stepped : ℤ → BsMonth
unfolding whole_years months_left
stepped a = record { year = nat_abs (whole_years a); month = months_left a + 1 }

module _ (c : Calendar) (y m : ℕ) (s : ℤ) where
  -- a step is answered exactly if the table is good and the year is one of its years
  step_is : step_month c y m s ≡ given c.good BadTable (given (in_years c.first c.years (whole_years (absolute y m s))) OffTable (Ok (stepped (absolute y m s))))
  unfolding step_month month_at stepped
  step_is = refl

  told : (x : BsMonth) → step_month c y m s ≡ Ok x → (c.good ≡ true) × (in_years c.first c.years (whole_years (absolute y m s)) ≡ true) × (stepped (absolute y m s) ≡ x)
  told x e =
      let a = given_answered c.good BadTable _ (sym step_is ∙ e) in
      let b = given_answered (in_years c.first c.years (whole_years (absolute y m s))) OffTable _ a.1 in
      (a.0, b.0, answered_same b.1)

  tells : (x : BsMonth) → c.good ≡ true → in_years c.first c.years (whole_years (absolute y m s)) ≡ true → stepped (absolute y m s) ≡ x → step_month c y m s ≡ Ok x
  tells x g i e = step_is ∙ given_on c.good BadTable _ g ∙ given_on _ OffTable _ i ∙ ap Ok e

year_of_law : (a : ℤ) → (stepped a).year ≡ nat_abs (whole_years a)
unfolding stepped
year_of_law a = refl

-- ---- more rows

module _ (c e : Calendar) (w : Extends c e) (y m : ℕ) (s : ℤ) (x : BsMonth) where
  -- what the shorter answers, the longer answers
  pub step_longer : step_month c y m s ≡ Ok x → step_month e y m s ≡ Ok x
  step_longer h =
      let t = told c y m s x h in
      let z = whole_years (absolute y m s) in
      let i = in_years_law c.first c.years z t.1 in
      let k : in_years e.first e.years (pos (nat_abs z)) ≡ true = years_in_law e.first e.years (nat_abs z) (omega (arith, i.1, w.first)) (omega (arith, i.2, w.first, w.years)) in
      tells e y m s x w.good_too (subst (λ (v : ℤ). in_years e.first e.years v ≡ true) (sym i.0) k) t.2

  -- what the longer answers, the shorter refuses exactly if the month lies in an added year
  pub step_added : step_month e y m s ≡ Ok x → RefusedIf (step_month c y m s) OffTable (Added c x.year)
  step_added h =
      let t = told e y m s x h in
      let z = whole_years (absolute y m s) in
      let i = in_years_law e.first e.years z t.1 in
      let n : x.year ≡ nat_abs z = sym (ap (λ (v : BsMonth). v.year) t.2) ∙ year_of_law (absolute y m s) in
      let in_c : nat_abs z < c.first + c.years → step_month c y m s ≡ Ok x =
      λ k. tells c y m s x w.good (subst (λ (v : ℤ). in_years c.first c.years v ≡ true) (sym i.0) (years_in_law c.first c.years (nat_abs z) (omega (arith, i.1, w.first)) k)) t.2 in
      record {
        when = λ a. step_is c y m s ∙ given_on c.good BadTable _ w.good ∙ given_off _ OffTable _ (subst (λ (v : ℤ). in_years c.first c.years v ≡ false) (sym i.0) (years_past c.first c.years (nat_abs z) (omega arith)));
        only = λ j r. ⊎_elim (λ a. omega (arith, n, a)) (λ b. absurd (refused_answered r (in_c b))) (split (c.first + c.years) (nat_abs z));
      }
