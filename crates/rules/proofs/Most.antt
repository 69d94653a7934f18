-- At most how many pairs a day's list can have: 64 fixed, 64 Gregorian, 64 computed from each of two years and 128 overrides. Assumes nothing.
use Prim.Native.Nat.{ℕ, suc, ◌+◌, ◌-◌, ◌≤◌}
use mathlib.Core.Path.{◌≡◌, refl}
use mathlib.Core.Bool.{Bool, true, false, cond, ◌&&◌}
use mathlib.Core.List.{List, [], ◌∷◌, ◌++◌}
use native.Mathlib.Omega.{arith}
use lib.Dec.{leb, eqb}
use lib.ListN.{length, get_or, length-append}
use Rattle.paper.proofs.Tests.{and_left}
use Rattle.gregorian.specs.declared.Date.{Date}
use Rattle.gregorian.specs.Calendar.{date_of}
use Rattle.conversion.specs.declared.BsDate.{BsDate}
use Rattle.conversion.specs.Calendar.{Calendar}
use Rattle.rules.specs.declared.Rule.{Rule}
use Rattle.rules.specs.declared.lists.Day.{Day}
use Rattle.rules.specs.declared.lists.Years.{Years}
use Rattle.rules.specs.Rules.{count_kind}
use Rattle.rules.specs.Sky.{Sky}
use Rattle.rules.specs.Festivals.{Pair, picked, kept_after, kept, is_fixed, is_gregorian, is_override, is_computed, day_pairs, day_list}
use Rattle.rules.specs.Resolved.{shows, used, falls, used_in, pairs_by, list_by}
use Rattle.rules.proofs.Accepted.{Counts}

count_more : (k : ℕ) (r : Rule) (rs : List Rule) → count_kind k rs ≤ count_kind k (r ∷ rs)
unfolding count_kind
count_more k r rs = go (eqb r.kind k)
  where
    go : (b : Bool) → count_kind k rs ≤ cond b (count_kind k rs + 1) (count_kind k rs)
    go true = omega arith
    go false = omega arith

-- rules of one kind alone
picked_most : (k : ℕ) (f : Rule → Bool) → ((r : Rule) → f r ≡ true → eqb r.kind k ≡ true) → (rs : List Rule) → length (picked f rs) ≤ count_kind k rs
unfolding picked count_kind
picked_most k f h [] = omega arith
picked_most k f h (r ∷ rs) = go (picked_most k f h rs) (f r) refl
  where
    go : length (picked f rs) ≤ count_kind k rs → (b : Bool) → f r ≡ b → length (cond b ((r.name, r.holiday) ∷ picked f rs) (picked f rs)) ≤ cond (eqb r.kind k) (count_kind k rs + 1) (count_kind k rs)
    go ih true e = rw (h r e) (omega arith)
    go ih false e = omega (arith, count_more k r rs)

used_step : (e : Pair) (a b : Bool) (u v : List Pair) (n : ℕ) → length u ≤ n → length v ≤ n → length (cond a (cond b (e ∷ u) u) v) ≤ cond a (n + 1) n
used_step e true true u v n h k = omega arith
used_step e true false u v n h k = omega arith
used_step e false b u v n h k = k

used_most : (rules : List Rule) (y : ℕ) (d : List ℕ) (n j : ℕ) (rs : List Rule) → length (used rules y d n j rs) ≤ count_kind 3 rs
unfolding used count_kind
used_most rules y d n j [] = omega arith
used_most rules y d n j (r ∷ rs) = used_step (r.name, r.holiday) (eqb r.kind 3) (shows rules y r.name (get_or d j 0) n) (used rules y d n (j + 1) rs) (used rules y d n j rs) (count_kind 3 rs) (used_most rules y d n (j + 1) rs) (used_most rules y d n j rs)

after_step : (e : Pair) (b : Bool) (u v : List Pair) (n : ℕ) → length u ≤ n → length v ≤ n → length (cond b u (e ∷ v)) ≤ suc n
after_step e true u v n h k = omega arith
after_step e false u v n h k = omega arith

after_most : (last : ℕ) (l : List Pair) → length (kept_after last l) ≤ length l
unfolding kept_after
after_most last [] = omega arith
after_most last (e ∷ es) = after_step e (eqb e.0 last) _ _ _ (after_most last es) (after_most e.0 es)

kept_most : (l : List Pair) → length (kept l) ≤ length l
unfolding kept
kept_most [] = omega arith
kept_most (e ∷ es) = omega (arith, after_most e.0 es)

five_most : (a b c d e : List Pair) → length a ≤ 64 → length b ≤ 64 → length c ≤ 64 → length d ≤ 64 → length e ≤ 128 → length (kept (a ++ b ++ c ++ d ++ e)) ≤ 384
five_most a b c d e h₁ h₂ h₃ h₄ h₅ =
    omega (arith, kept_most (a ++ b ++ c ++ d ++ e), length-append (a ++ b ++ c ++ d) e, length-append (a ++ b ++ c) d, length-append (a ++ b) c, length-append a b)

early_most : (b : Bool) (l : List Pair) → length l ≤ 64 → length (cond b l []) ≤ 64
early_most true l h = h
early_most false l h = omega arith

-- the first of three and of four tests
first_three : (a b c : Bool) → (a && b && c) ≡ true → a ≡ true
first_three a b c e = and_left a b (and_left (a && b) c e)

first_four : (a b c d : Bool) → (a && b && c && d) ≡ true → a ≡ true
first_four a b c d e = first_three a b c (and_left (a && b && c) d e)

module _ (rs : List Rule) (w : Counts rs) where
  fixed_most : (t : BsDate) → length (picked (is_fixed t) rs) ≤ 64
  fixed_most t = omega (arith, w.fixed_few, picked_most 1 (is_fixed t) (λ r e. first_three _ _ _ e) rs)

  gregorian_most : (g : Date) → length (picked (is_gregorian g) rs) ≤ 64
  gregorian_most g = omega (arith, w.gregorian_few, picked_most 2 (is_gregorian g) (λ r e. first_three _ _ _ e) rs)

  override_most : (t : BsDate) → length (picked (is_override t) rs) ≤ 128
  override_most t = omega (arith, w.overrides_few, picked_most 4 (is_override t) (λ r e. first_four _ _ _ _ e) rs)

  -- from two resolved years
  pub list_most : (q : Day) (ys : Years) → length (list_by rs q ys) ≤ 384
  unfolding list_by pairs_by
  list_most q ys =
      let b = used_in rs q.bs.year ys.before.days q.number in
      let t = used_in rs q.bs.year ys.this.days q.number in
      let few-b : length b ≤ 64 = omega (arith, w.computed_few, used_most rs q.bs.year ys.before.days q.number 0 rs) in
      let few-t : length t ≤ 64 = omega (arith, w.computed_few, used_most rs q.bs.year ys.this.days q.number 0 rs) in
      let early = leb q.bs.month 2 in
      five_most (picked (falls 1 q) rs) (picked (falls 2 q) rs) (cond early b []) t (picked (falls 4 q) rs)
      (fixed_most q.bs) (gregorian_most q.ad) (early_most early b few-b) few-t (override_most q.bs)

  module _ {I : Type 0} (s : Sky I) (c : Calendar) where
    computed-most : (y : ℕ) (t : BsDate) (n : ℕ) → length (picked (is_computed s c rs y t n) rs) ≤ 64
    unfolding is_computed
    computed-most y t n = omega (arith, w.computed_few, picked_most 3 (is_computed s c rs y t n) (λ r e. first_three _ _ _ e) rs)

    -- at most 384 entries a day
    pub day-most : (t : BsDate) (n : ℕ) → length (day_list s c rs t n) ≤ 384
    unfolding day_list day_pairs
    day-most t n =
        let b = picked (is_computed s c rs (t.year - 1) t n) rs in
        let early = leb t.month 2 in
        five_most (picked (is_fixed t) rs) (picked (is_gregorian (date_of n)) rs) (cond early b []) (picked (is_computed s c rs t.year t n) rs) (picked (is_override t) rs)
        (fixed_most t) (gregorian_most (date_of n)) (early_most early b (computed-most (t.year - 1) t n)) (computed-most t.year t n) (override_most t)
