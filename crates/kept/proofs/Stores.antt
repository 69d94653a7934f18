-- Laws of the code's store: the years that it holds, and the store of years that are worked out. Assumes nothing.
use Prim.Native.Nat.{ℕ, ◌-◌, ◌≤◌, ◌<◌}
use mathlib.Core.Path.{◌≡◌, refl, sym, ap, ◌∙◌}
use mathlib.Core.Bool.{Bool, true, false, true≢false}
use mathlib.Core.List.{List, [], ◌∷◌}
use mathlib.Core.Logic.{⊎_elim}
use native.Mathlib.Omega.{arith}
use borrow.Author.Tests.{ne_eqb, eqb-true, eqb-false, le-leb, lt-leb}
use lib.Dec.{eqb}
use Rattle.paper.proofs.Tests.{split}
use Rattle.conversion.specs.Calendar.{Calendar}
use Rattle.conversion.specs.Claims.{YearIn}
use Rattle.rules.specs.Rules.{rules_of}
use Rattle.rules.specs.Resolved.{years_for}
use Rattle.festivals.specs.Kathmandu.{kathmandu, resolved_year, years_in}
use Rattle.kept.specs.declared.Store.{Store}
use Rattle.kept.specs.State.{Year, year_of, year_numbers, fresh_all, anew, drawn, following}
use Rattle.kept.specs.Held.{years, store_of}
use Rattle.kept.specs.Inner.{Fresh, store_for}
use Rattle.kept.proofs.Fresh.{drawn_late, drawn_first, drawn_two, nothing_resolved}

-- ---- the years of a store, by its count

module _ (s : Store) where
  pub years_none : s.count ≡ 0 → years s ≡ []
  unfolding years
  years_none e = rw e

  pub years_one : s.count ≡ 1 → years s ≡ year_of s.year s.years.this.days ∷ []
  unfolding years
  years_one e = rw e

  pub years_two : (s.count ≡ 0 → ⊥) → (s.count ≡ 1 → ⊥) → years s ≡ year_of (s.year - 1) s.years.before.days ∷ year_of s.year s.years.this.days ∷ []
  unfolding years
  years_two h k = rw (ne_eqb s.count 0 h, ne_eqb s.count 1 k)

-- the store of some years holds them
pub years_stored : (ks : List Year) → following (year_numbers ks) ≡ true → years (store_of ks) ≡ ks
unfolding years store_of
years_stored [] h = refl
years_stored (k ∷ []) h = refl
years_stored (k ∷ l ∷ []) h =
    let e : l.year - 1 ≡ k.year = omega (arith, eqb-true l.year _ h) in
    ap (λ (n : ℕ). year_of n k.days ∷ l ∷ []) e
years_stored (k ∷ l ∷ m ∷ ks) h = absurd (true≢false (sym h))

-- ---- the store of years that are worked out

first_days : List Year → List ℕ
first_days [] = []
first_days (k ∷ ks) = k.days

second_days : List Year → List ℕ
second_days [] = []
second_days (k ∷ ks) = first_days ks

module _ (c : Calendar) (rules : List ℕ) where
  abbrev right : ℕ → List ℕ
  right y = resolved_year c (rules_of rules) y

  module _ (ys : List ℕ) (r : Store) where
    pub none-fresh : ys ≡ [] → r ≡ store_of [] → r ≡ store_for c rules ys
    none-fresh e q = rw e q

    pub one-fresh : (y : ℕ) (this : List ℕ) → ys ≡ y ∷ [] → this ≡ right y → r ≡ store_of (year_of y this ∷ []) → r ≡ store_for c rules ys
    one-fresh y this e p q = rw e (q ∙ ap (λ (d : List ℕ). store_of (year_of y d ∷ [])) p)

    pub two-fresh : (y k : ℕ) (before this : List ℕ) → ys ≡ (y - 1) ∷ y ∷ [] → k ≡ y - 1 → before ≡ right k → this ≡ right y
        → r ≡ store_of (year_of (y - 1) before ∷ year_of y this ∷ []) → r ≡ store_for c rules ys
    two-fresh y k before this e n b t q =
        rw e
        (q
        ∙ ap (λ (d : List ℕ). store_of (year_of (y - 1) d ∷ year_of y this ∷ [])) (b ∙ ap right n)
        ∙ ap (λ (d : List ℕ). store_of (year_of (y - 1) (right (y - 1)) ∷ year_of y d ∷ [])) t)

  -- what is stored serves where it is fresh
  module _ (s : Store) (g : Fresh c rules s) (h : s.count ≡ 0 → ⊥) where
    both_stored : (s.count ≡ 1 → ⊥) → year_of (s.year - 1) s.years.before.days ∷ year_of s.year s.years.this.days ∷ [] ≡ fresh_all c rules ((s.year - 1) ∷ s.year ∷ [])
    both_stored k = sym (years_two s h k) ∙ g ∙ ap (anew c rules) (years_two s h k)

    pub stored-before : (s.count ≡ 1 → ⊥) → s.years.before.days ≡ right (s.year - 1)
    unfolding first_days
    stored-before k = ap first_days (both_stored k)

    pub stored-this : s.years.this.days ≡ right s.year
    unfolding first_days second_days
    stored-this = go (eqb s.count 1) refl
      where
        go : (b : Bool) → eqb s.count 1 ≡ b → s.years.this.days ≡ right s.year
        go true e = let k = eqb-true s.count 1 e in ap first_days (sym (years_one s k) ∙ g ∙ ap (anew c rules) (years_one s k))
        go false e = ap second_days (both_stored (eqb-false s.count 1 e))

  -- the store of the years that a month draws from has the two years that its lists come from
  module _ (y m : ℕ) (h : YearIn c y) where
    late-years : 2 < m → (store_for c rules (drawn c y m)).years ≡ years_in c (rules_of rules) y m
    unfolding store_of years_for
    late-years l = rw (drawn_late c y m h l, lt-leb m 2 l)

    first-years : m ≤ 2 → y - 1 < c.first → (store_for c rules (drawn c y m)).years ≡ years_in c (rules_of rules) y m
    unfolding store_of years_for
    first-years l k =
        let out = nothing_resolved kathmandu c (y - 1) (simp (lt-leb c.first (y - 1) k)) (rules_of rules) in
        rw (drawn_first c y m h l k, le-leb m 2 l, out)

    both_years : m ≤ 2 → c.first ≤ y - 1 → (store_for c rules (drawn c y m)).years ≡ years_in c (rules_of rules) y m
    unfolding store_of years_for
    both_years l k = rw (drawn_two c y m h l k, le-leb m 2 l)

    pub drawn-years : (store_for c rules (drawn c y m)).years ≡ years_in c (rules_of rules) y m
    drawn-years = ⊎_elim (λ l. ⊎_elim (both_years l) (first-years l) (split c.first (y - 1))) late-years (split m 2)
