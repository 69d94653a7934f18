-- A resolved year serves each day as the rules themselves do. Assumes nothing.
use Rattle.std.specs.Prelude.{None, Option, Some}
use Prim.Native.Nat.{ℕ, zero, suc, ◌+◌, ◌-◌, ◌≤◌, ◌<◌}
use mathlib.Core.Path.{◌≡◌, refl, sym, ap, ◌∙◌}
use mathlib.Core.Bool.{Bool, true, false, cond, not, ◌&&◌}
use mathlib.Core.List.{List, [], ◌∷◌}
use mathlib.Core.Logic.{◌⊎◌, inl, inr, ⊎_elim}
use native.Mathlib.Omega.{arith}
use borrow.Author.Tests.{eq-eqb, ne_eqb, eqb-true, eqb-false}
use lib.Dec.{eqb, leb}
use lib.ListN.{length, get_or, replicate, length-set, length-replicate}
use lib.Seq.{get_or-set_same, get_or-set_other}
use Rattle.conversion.specs.declared.BsDate.{BsDate}
use Rattle.conversion.specs.Calendar.{Calendar}
use Rattle.rules.specs.declared.Rule.{Rule}
use Rattle.rules.specs.Rules.{count_kind}
use Rattle.rules.specs.Sky.{Sky}
use Rattle.rules.specs.Days.{holds}
use Rattle.rules.specs.Festivals.{entry, entry_on, Pair, picked, silenced, is_computed, day_pairs, day_list}
use Rattle.rules.specs.Resolved.{put_entry, filled, resolved, years_for, day_numbered, used, pairs_by, list_by}
use Rattle.rules.proofs.Walk.{count_is, count_not}
use Rattle.rules.proofs.Stores.{picked_cons, used_not, used_is}

-- ---- filling the places

module _ {I : Type 0} (s : Sky I) (c : Calendar) (y : ℕ) (d : List ℕ) (j : ℕ) where
  pub fill_none : filled s c y d j [] ≡ d
  unfolding filled
  fill_none = refl

  pub fill_not : (r : Rule) (rs : List Rule) → (r.kind ≡ 3 → ⊥) → filled s c y d j (r ∷ rs) ≡ filled s c y d j rs
  unfolding filled
  fill_not r rs e = rw (ne_eqb r.kind 3 e)

  pub fill_is : (r : Rule) (rs : List Rule) → r.kind ≡ 3 → filled s c y d j (r ∷ rs) ≡ filled s c y (put_entry d j (entry s c y r)) (j + 1) rs
  unfolding filled
  fill_is r rs e = rw (eq-eqb r.kind 3 e)

put_length : (d : List ℕ) (j : ℕ) (o : Option ℕ) → length (put_entry d j o) ≡ length d
unfolding put_entry
put_length d j (Some n) = length-set d j n
put_length d j None = refl

put_other : (d : List ℕ) (j k : ℕ) (o : Option ℕ) → (k ≡ j → ⊥) → get_or (put_entry d j o) k 0 ≡ get_or d k 0
unfolding put_entry
put_other d j k (Some n) h = get_or-set_other d j k n 0 h
put_other d j k None h = refl

-- the place of an entry, where it is compared with a day that is not 0
put_on : (d : List ℕ) (j : ℕ) (o : Option ℕ) (n : ℕ) → j < length d → get_or d j 0 ≡ 0 → 1 ≤ n → eqb (get_or (put_entry d j o) j 0) n ≡ holds o (λ k. eqb k n)
unfolding put_entry holds
put_on d j (Some k) n h z p = rw (get_or-set_same d j k 0 h)
put_on d j None n h z p = rw z (ne_eqb 0 n (λ e. omega arith))

zeros : (m k : ℕ) → ◌≡◌ {A = ℕ} (get_or (replicate m 0) k 0) 0
zeros zero k = refl
zeros (suc m) zero = refl
zeros (suc m) (suc k) = zeros m k

kind_or : (r : Rule) → (r.kind ≡ 3) ⊎ (r.kind ≡ 3 → ⊥)
kind_or r = go (eqb r.kind 3) refl
  where
    go : (b : Bool) → eqb r.kind 3 ≡ b → (r.kind ≡ 3) ⊎ (r.kind ≡ 3 → ⊥)
    go true e = inl (eqb-true r.kind 3 e)
    go false e = inr (eqb-false r.kind 3 e)

-- ---- reading them

both : (e : Pair) (a b : Bool) (u v : List Pair) → a ≡ b → u ≡ v → cond a (e ∷ u) u ≡ cond b (e ∷ v) v
both e a b u v p q = rw (p, q)

module _ {I : Type 0} (s : Sky I) (c : Calendar) (rules : List Rule) (y : ℕ) where
  -- places before j stay
  keeps : (rs : List Rule) (d : List ℕ) (j k : ℕ) → k < j → get_or (filled s c y d j rs) k 0 ≡ get_or d k 0
  keeps [] d j k h = ap (λ (l : List ℕ). get_or l k 0) (fill_none s c y d j)
  keeps (r ∷ rs) d j k h =
      ⊎_elim
      (λ e. ap (λ (l : List ℕ). get_or l k 0) (fill_is s c y d j r rs e) ∙ keeps rs _ (j + 1) k (omega arith) ∙ put_other d j k (entry s c y r) (λ q. omega arith))
      (λ e. ap (λ (l : List ℕ). get_or l k 0) (fill_not s c y d j r rs e) ∙ keeps rs d j k h)
      (kind_or r)

  module _ (t : BsDate) (n : ℕ) (p : 1 ≤ n) where
    computed-is : (r : Rule) → r.kind ≡ 3 → is_computed s c rules y t n r ≡ (holds (entry s c y r) (λ k. eqb k n) && not (silenced rules t.year r.name))
    unfolding is_computed entry_on
    computed-is r e = rw (eq-eqb r.kind 3 e)

    computed-not : (r : Rule) → (r.kind ≡ 3 → ⊥) → is_computed s c rules y t n r ≡ false
    unfolding is_computed
    computed-not r e = rw (ne_eqb r.kind 3 e)

    none_left : (d : List ℕ) (j : ℕ) → used rules t.year d n j [] ≡ picked (is_computed s c rules y t n) []
    unfolding used picked
    none_left d j = refl

    served : (rs : List Rule) (d : List ℕ) (j : ℕ) → j + count_kind 3 rs ≤ length d → ((k : ℕ) → j ≤ k → get_or d k 0 ≡ 0)
        → used rules t.year (filled s c y d j rs) n j rs ≡ picked (is_computed s c rules y t n) rs
    served [] d j h z = none_left (filled s c y d j []) j
    served (r ∷ rs) d j h z =
        ⊎_elim
        (λ e.
        let o = entry s c y r in
        let d' = put_entry d j o in
        let w = filled s c y d' (j + 1) rs in
        let ih : used rules t.year w n (j + 1) rs ≡ picked (is_computed s c rules y t n) rs =
        served rs d' (j + 1) (omega (arith, count_is 3 r rs e, put_length d j o)) (λ k l. put_other d j k o (λ q. omega arith) ∙ z k (omega arith)) in
        let q : eqb (get_or w j 0) n ≡ holds o (λ k. eqb k n) =
        ap (λ (k : ℕ). eqb k n) (keeps rs d' (j + 1) j (omega arith)) ∙ put_on d j o n (omega (arith, count_is 3 r rs e)) (z j (omega arith)) p in
        ap (λ (l : List ℕ). used rules t.year l n j (r ∷ rs)) (fill_is s c y d j r rs e)
        ∙ used_is rules t.year w n j r rs e
        ∙ both (r.name, r.holiday) _ _ _ _ (ap (λ (b : Bool). b && not (silenced rules t.year r.name)) q ∙ sym (computed-is r e)) ih
        ∙ sym (picked_cons (is_computed s c rules y t n) r rs))
        (λ e.
        ap (λ (l : List ℕ). used rules t.year l n j (r ∷ rs)) (fill_not s c y d j r rs e)
        ∙ used_not rules t.year (filled s c y d j rs) n j r rs e
        ∙ served rs d j (omega (arith, count_not 3 r rs e)) z
        ∙ ap (λ (b : Bool). cond b ((r.name, r.holiday) ∷ picked (is_computed s c rules y t n) rs) (picked (is_computed s c rules y t n) rs)) (sym (computed-not r e))
        ∙ sym (picked_cons (is_computed s c rules y t n) r rs))
        (kind_or r)

    -- from nothing
    from_none : (rs : List Rule) → count_kind 3 rs ≤ 64 → used rules t.year (resolved s c y rs) n 0 rs ≡ picked (is_computed s c rules y t n) rs
    unfolding resolved
    from_none rs h = served rs (replicate 64 0) 0 (omega (arith, length-replicate {A = ℕ} 64 0)) (λ k l. zeros 64 k)

-- a year that is not asked plays no part
early_only : (b : Bool) (f : List ℕ → List Pair) (d z : List ℕ) (v : List Pair) → f d ≡ v → cond b (f (cond b d z)) [] ≡ cond b v []
early_only true f d z v h = h
early_only false f d z v h = refl

-- a day's list from the two years of its month
pub two_years : {I : Type 0} (s : Sky I) (c : Calendar) (rs : List Rule) (t : BsDate) (n : ℕ) → count_kind 3 rs ≤ 64 → 1 ≤ n
    → list_by rs (day_numbered t n) (years_for s c rs t.year t.month) ≡ day_list s c rs t n
unfolding list_by pairs_by years_for day_list day_pairs
two_years s c rs t n h p =
    let b = early_only (leb t.month 2) (λ (d : List ℕ). used rs t.year d n 0 rs) _ (replicate 64 0) _ (from_none s c rs (t.year - 1) t n p rs h) in
    rw (b, from_none s c rs t.year t n p rs h)
