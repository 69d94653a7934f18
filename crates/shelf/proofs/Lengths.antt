-- The arrays that hold a good state have their lengths. Assumes nothing.
use Rattle.std.specs.Prelude.{None, Option, Some}
use Prim.Native.Nat.{ℕ, ◌+◌, ◌-◌, ◌≤◌}
use mathlib.Core.Path.{◌≡◌, refl, ap, ◌∙◌}
use mathlib.Core.Bool.{Bool, true, false, cond}
use mathlib.Core.List.{List, [], ◌∷◌}
use mathlib.Core.Logic.{⊎_elim}
use native.Mathlib.Omega.{arith}
use lib.Dec.{eqb}
use lib.ListN.{length, replicate, length-append, length-replicate, length-set}
use Rattle.conversion.specs.Calendar.{Calendar}
use Rattle.conversion.proofs.Accepted.{facts}
use Rattle.rules.specs.declared.Rule.{Rule}
use Rattle.rules.specs.Sky.{Sky}
use Rattle.rules.specs.Festivals.{entry}
use Rattle.rules.specs.Rules.{rules_of}
use Rattle.rules.specs.Resolved.{put_entry, filled, resolved}
use Rattle.rules.proofs.Few.{few_rules}
use Rattle.festivals.specs.Kathmandu.{kathmandu}
use Rattle.kept.specs.State.{State, Good, calendar, year_numbers, fresh_all}
use Rattle.kept.specs.Held.{padded, store_of, record_of}
use Rattle.shelf.proofs.Sizes.{Sized}

-- ---- sixty-four entries

either : (b : Bool) (l m : List ℕ) (n : ℕ) → length l ≡ n → length m ≡ n → length (cond b l m) ≡ n
either true l m n e f = e
either false l m n e f = f

length_entry : (d : List ℕ) (j : ℕ) (o : Option ℕ) → length (put_entry d j o) ≡ length d
unfolding put_entry
length_entry d j (Some n) = length-set d j n
length_entry d j None = refl

module _ {I : Type 0} (s : Sky I) (c : Calendar) (y : ℕ) where
  length_filled : (d : List ℕ) (j : ℕ) (rs : List Rule) → length (filled s c y d j rs) ≡ length d
  unfolding filled
  length_filled d j [] = refl
  length_filled d j (r ∷ rs) =
      either (eqb r.kind 3) _ _ (length d)
      (length_filled (put_entry d j (entry s c y r)) (j + 1) rs ∙ length_entry d j (entry s c y r))
      (length_filled d j rs)

  length_resolved : (rs : List Rule) → length (resolved s c y rs) ≡ 64
  unfolding resolved
  length_resolved rs = length_filled (replicate 64 0) 0 rs ∙ length-replicate {A = ℕ} 64 0

-- the days of the years that are worked out
module _ (c : Calendar) (rules : List ℕ) where
  length_before : (ys : List ℕ) → length (store_of (fresh_all c rules ys)).years.before.days ≡ 64
  unfolding store_of
  length_before [] = length-replicate {A = ℕ} 64 0
  length_before (y ∷ []) = length-replicate {A = ℕ} 64 0
  length_before (y ∷ z ∷ ys) = length_resolved kathmandu c y (rules_of rules)

  length_this : (ys : List ℕ) → length (store_of (fresh_all c rules ys)).years.this.days ≡ 64
  unfolding store_of
  length_this [] = length-replicate {A = ℕ} 64 0
  length_this (y ∷ []) = length_resolved kathmandu c y (rules_of rules)
  length_this (y ∷ z ∷ ys) = length_resolved kathmandu c z (rules_of rules)

-- ---- a good state

length_padded : (n : ℕ) (l : List ℕ) → length l ≤ n → length (padded n l) ≡ n
length_padded n l h = omega (arith, length-append l (replicate (n - length l) 0), length-replicate {A = ℕ} (n - length l) 0)

module _ (σ : State) (g : Good σ) where
  pub few_rows : length σ.rows ≤ 1664
  few_rows = ⊎_elim (λ e. omega (arith, ap length e)) (λ e. let f = (facts σ.table σ.rows e).frame in omega arith) g.table

  pub few_rule_numbers : length σ.rules ≤ 2560
  few_rule_numbers = few_rules σ.rules g.rules

  pub good_sizes : Sized (record_of σ)
  good_sizes =
      let ys = year_numbers σ.stored in
      record {
        rows = length_padded 1664 σ.rows few_rows;
        rules = length_padded 2560 σ.rules few_rule_numbers;
        before = ap (λ ks. length (store_of ks).years.before.days) g.stored ∙ length_before (calendar σ) σ.rules ys;
        this = ap (λ ks. length (store_of ks).years.this.days) g.stored ∙ length_this (calendar σ) σ.rules ys;
      }
