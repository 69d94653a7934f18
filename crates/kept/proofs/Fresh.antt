-- Laws of the years that are stored: which they are, and what they are worked out to. Assumes nothing.
use Rattle.std.specs.Prelude.{None}
use Prim.Native.Nat.{ℕ, ◌+◌, ◌-◌, ◌≤◌, ◌<◌}
use mathlib.Core.Path.{◌≡◌, refl, sym, ap}
use mathlib.Core.Bool.{Bool, true, false, cond, and-false}
use mathlib.Core.List.{List, [], ◌∷◌}
use native.Mathlib.Omega.{arith}
use borrow.Author.Tests.{eq-eqb, le-leb, lt-leb, lt-ltb, leb-true, ltb-true}
use lib.Dec.{leb, ltb, eqb}
use lib.ListN.{replicate}
use Rattle.paper.proofs.Tests.{and_left, and_right}
use Rattle.conversion.specs.Calendar.{Calendar, year_ok}
use Rattle.conversion.specs.Claims.{YearIn}
use Rattle.rules.specs.declared.Rule.{Rule}
use Rattle.rules.specs.Sky.{Sky}
use Rattle.rules.specs.Days.{next}
use Rattle.rules.specs.Festivals.{last_of, moons, opening, rule_day, entry}
use Rattle.rules.specs.Resolved.{put_entry, filled, resolved}
use Rattle.kept.specs.State.{year_numbers, fresh_all, anew, table_years, drawn, among, following}

-- ---- worked out afresh

module _ (c : Calendar) (rules : List ℕ) where
  pub numbers_fresh : (ys : List ℕ) → year_numbers (fresh_all c rules ys) ≡ ys
  numbers_fresh [] = refl
  numbers_fresh (y ∷ ys) = ap (λ (l : List ℕ). y ∷ l) (numbers_fresh ys)

  -- what is worked out once more stays
  pub fresh_anew : (ys : List ℕ) → fresh_all c rules ys ≡ anew c rules (fresh_all c rules ys)
  fresh_anew ys = ap (fresh_all c rules) (sym (numbers_fresh ys))

-- ---- the years that a month draws from

module _ (c : Calendar) where
  table_among : (ys : List ℕ) → among c (table_years c ys) ≡ true
  table_among [] = refl
  table_among (y ∷ ys) = go (year_ok c y) refl (table_among ys)
    where
      go : (b : Bool) → year_ok c y ≡ b → among c (table_years c ys) ≡ true → among c (cond b (y ∷ table_years c ys) (table_years c ys)) ≡ true
      go true e h = rw e h
      go false e h = h

  -- they are of the table
  pub drawn_among : (y m : ℕ) → among c (drawn c y m) ≡ true
  unfolding drawn
  drawn_among y m = table_among (cond (leb m 2) ((y - 1) ∷ y ∷ []) (y ∷ []))

  -- and none, one, or a year and the one after it
  pub drawn_follow : 1 ≤ c.first → (y m : ℕ) → following (drawn c y m) ≡ true
  unfolding drawn
  drawn_follow h y m = go (leb m 2)
    where
      one : (b : Bool) → following (cond b (y ∷ []) []) ≡ true
      one true = refl
      one false = refl

      two : (a b : Bool) → year_ok c y ≡ b → following (cond a ((y - 1) ∷ cond b (y ∷ []) []) (cond b (y ∷ []) [])) ≡ true
      two true true e = eq-eqb y (y - 1 + 1) (omega (arith, leb-true c.first y (and_left (leb c.first y) (ltb y (c.first + c.years)) e)))
      two true false e = refl
      two false b e = one b

      go : (b : Bool) → following (table_years c (cond b ((y - 1) ∷ y ∷ []) (y ∷ []))) ≡ true
      go true = two (year_ok c (y - 1)) (year_ok c y) refl
      go false = one (year_ok c y)

module _ (c : Calendar) (y m : ℕ) (h : YearIn c y) where
  pub drawn_late : 2 < m → drawn c y m ≡ y ∷ []
  unfolding drawn
  drawn_late l = simp (lt-leb _ _ l, le-leb _ _ h.0, lt-ltb _ _ h.1)

  pub drawn_first : m ≤ 2 → y - 1 < c.first → drawn c y m ≡ y ∷ []
  unfolding drawn
  drawn_first l k = simp (le-leb _ _ l, lt-leb _ _ k, le-leb _ _ h.0, lt-ltb _ _ h.1)

  pub drawn_two : m ≤ 2 → c.first ≤ y - 1 → drawn c y m ≡ (y - 1) ∷ y ∷ []
  unfolding drawn
  drawn_two l k =
      let b : y - 1 < c.first + c.years = omega (arith, h.1) in
      simp (le-leb _ _ l, le-leb _ _ k, lt-ltb _ _ b, le-leb _ _ h.0, lt-ltb _ _ h.1)

-- a longer table has the years of a shorter
module _ (c e : Calendar) (p : c.first ≡ e.first) (q : c.years ≤ e.years) where
  more_years : (y : ℕ) → year_ok c y ≡ true → year_ok e y ≡ true
  more_years y h =
      let a : e.first ≤ y = omega (arith, p, leb-true c.first y (and_left (leb c.first y) (ltb y (c.first + c.years)) h)) in
      let b : y < e.first + e.years = omega (arith, p, q, ltb-true y (c.first + c.years) (and_right (leb c.first y) (ltb y (c.first + c.years)) h)) in
      simp (le-leb _ _ a, lt-ltb _ _ b)

  pub among_longer : (ys : List ℕ) → among c ys ≡ true → among e ys ≡ true
  among_longer [] h = refl
  among_longer (y ∷ ys) h = rw (more_years y (and_left (year_ok c y) (among c ys) h)) (among_longer ys (and_right (year_ok c y) (among c ys) h))

-- ---- a year that the table has not has no entry

module _ {I : Type 0} (s : Sky I) (c : Calendar) (y : ℕ) (h : year_ok c y ≡ false) where
  no_entry : (r : Rule) → entry s c y r ≡ None
  unfolding entry rule_day opening moons last_of next
  no_entry r = rw (h, and-false c.good)

  nothing_filled : (d : List ℕ) (j : ℕ) (rs : List Rule) → filled s c y d j rs ≡ d
  unfolding filled put_entry
  nothing_filled d j [] = refl
  nothing_filled d j (r ∷ rs) = go (eqb r.kind 3) (nothing_filled d (j + 1) rs) (nothing_filled d j rs)
    where
      go : (b : Bool) → filled s c y d (j + 1) rs ≡ d → filled s c y d j rs ≡ d → cond b (filled s c y (put_entry d j (entry s c y r)) (j + 1) rs) (filled s c y d j rs) ≡ d
      go true p q = rw (no_entry r) p
      go false p q = q

  pub nothing_resolved : (rs : List Rule) → resolved s c y rs ≡ replicate 64 0
  unfolding resolved
  nothing_resolved rs = nothing_filled (replicate 64 0) 0 rs
