-- The one pass over a table's rows: what it says where a row breaks a rule, and how far it reaches. Assumes nothing.
use Prim.Native.Nat.{ℕ, zero, suc, ◌+◌, ◌≤◌, ◌<◌}
use mathlib.Core.Path.{◌≡◌, refl, sym}
use mathlib.Core.Bool.{Bool, true, false, ◌&&◌}
use mathlib.Core.List.{List}
use mathlib.Core.Logic.{◌⊎◌, inl, inr, ⊎_elim}
use native.Mathlib.Numerals.{add-one}
use native.Mathlib.Omega.{arith}
use borrow.Author.Tests.{leb-true, leb-false}
use lib.Dec.{leb}
use Rattle.paper.specs.Sums.{sum}
use Rattle.paper.proofs.Sums.{sum_zero, sum_suc}
use Rattle.paper.proofs.Tests.{split}
use Rattle.conversion.specs.declared.check.Passed.{Passed}
use Rattle.conversion.specs.Flat.{lens, row_days}
use Rattle.conversion.specs.Inner.{advance, further_of, passed, Reached}

-- before the first row
pub reached_none : (rows : List ℕ) (until day : ℕ) → Reached rows 0 until day 0 0
reached_none rows until day =
    record { among = omega arith; to = omega arith; days = sym (sum_zero _); day_to = omega arith; next = λ h k. absurd (omega arith) }

-- after one row more: the row stays where it was, or is the new one
module _ (rows : List ℕ) (i until day : ℕ) (p : Passed) (r : Reached rows i until day p.row p.before) where
  stays : (until ≤ i) ⊎ (day < row_days rows (i + 1)) → Reached rows (i + 1) until day p.row p.before
  stays h =
      record {
        among = omega (arith, r.among);
        to = r.to;
        days = r.days;
        day_to = r.day_to;
        next = λ a b. ⊎_elim (λ l. r.next (omega arith) b)
            (λ l. let q : p.row ≡ i = omega (arith, r.among) in
            ⊎_elim (λ u. absurd (omega arith)) (λ u. rw q u) h)
            (split (p.row + 1) i);
      }

  pub reached_more : (days : ℕ) → days ≡ row_days rows (i + 1) → let q = further_of p (i + 1) days until day in Reached rows (i + 1) until day q.row q.before
  reached_more days e = go (leb (i + 1) until) refl (leb days day) refl
    where
      go : (a : Bool) → leb (i + 1) until ≡ a → (b : Bool) → leb days day ≡ b → let q = advance (a && b) p (i + 1) days in Reached rows (i + 1) until day q.row q.before
      go true f true g = record { among = omega arith; to = leb-true _ _ f; days = e; day_to = leb-true _ _ g; next = λ h k. absurd (omega arith) }
      go true f false g = stays (inr (rw (← e) (leb-false _ _ g)))
      go false f b g = stays (inl (let l : until < i + 1 = leb-false _ _ f in omega arith))

further_days : (b : Bool) (p : Passed) (i days : ℕ) → (advance b p i days).days ≡ days
further_days true p i days = refl
further_days false p i days = refl

-- what a pass finds: the days of its rows, and how far it reached
pub pass_days : (rows : List ℕ) (n until day : ℕ) → (passed rows n until day).days ≡ row_days rows n
unfolding passed
pass_days rows zero until day = sym (sum_zero _)
pass_days rows (suc n) until day = further_days _ (passed rows n until day) (suc n) (row_days rows (suc n))

pub pass_reached : (rows : List ℕ) (n until day : ℕ) → let p = passed rows n until day in Reached rows n until day p.row p.before
unfolding passed
pass_reached rows zero until day = reached_none rows until day
pass_reached rows (suc n) until day =
    rw add-one at (reached_more rows n until day (passed rows n until day) (pass_reached rows n until day) (row_days rows (n + 1)) refl)

-- a turn of the loop
pub pass_turn : (rows : List ℕ) (n until day len : ℕ) (p : Passed) → p ≡ passed rows n until day → len ≡ sum (lens rows n) 12
    → further_of p (n + 1) (p.days + len) until day ≡ passed rows (n + 1) until day
unfolding passed
pass_turn rows n until day len p e h =
    let d : p.days + len ≡ row_days rows (suc n) = rw e (omega (arith, h, pass_days rows n until day, sum_suc (λ k. sum (lens rows k) 12) n)) in
    rw (d, e, add-one)
