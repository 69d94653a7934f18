-- Laws of the twelve places: what a turn of the loop does, and what the places hold at the end. Assumes nothing.
use Rattle.std.specs.Prelude.{Err, None, Ok, Option, Some}
use mathlib.Core.Path.{◌≡◌, refl, sym, ap, ◌∙◌}
use mathlib.Core.Bool.{Bool, true, false, cond, ◌&&◌}
use mathlib.Core.List.{List, [], ◌∷◌, ◌++◌}
use Prim.Native.Nat.{ℕ, zero, suc, ◌+◌, ◌-◌, ◌≤◌, ◌<◌}
use native.Mathlib.Numerals.{add-one}
use native.Mathlib.Omega.{arith}
use borrow.Author.Tests.{eq-eqb, ne_eqb, eqb-true, eqb-false}
use lib.Dec.{eqb}
use lib.ListN.{length, get_or, set, take, drop, replicate, length-set}
use lib.Seq.{drop-cons, get_or-set_same, get_or-set_other, ext_get_or}
use lib.Ieee.{Float, nan}
use Rattle.std.proofs.lemmas.List.{drop_all}
use Rattle.paper.specs.declared.Refusal.{Refusal}
use Rattle.paper.specs.Answers.{Answer}
use Rattle.paper.specs.Floats.{◌⊕◌, ◌⊖◌, dec}
use Rattle.gregorian.specs.Instants.{zero_of}
use Rattle.conversion.specs.declared.BsDate.{BsDate}
use Rattle.conversion.specs.Calendar.{Calendar, from_day}
use Rattle.festivals.proofs.Placed.{month_of_law}
use Rattle.sky.specs.Tithi.{elongation_of}
use Rattle.sky.specs.Search.{offset, target_of, starts_of}
use Rattle.sky.proofs.Searches.{starts_bounded}
use Rattle.sky.proofs.Fronts.{over_length, over_front}
use Rattle.rules.specs.Sky.{Sky}
use Rattle.rules.specs.Days.{holds}
use Rattle.rules.specs.Festivals.{dated, last_of, in_month}
use Rattle.festivals.specs.declared.months.Months.{Months}
use Rattle.festivals.specs.Kathmandu.{moons_around}
use Rattle.festivals.specs.Months.{each, months_by, month_at}

-- ---- the loop's shape
unfoldable pub put : Months → ℕ → Float → Months
put m j x = record { opens = set m.opens j (Some x) }

-- a new moon takes its month's place, over an earlier one
unfoldable pub place_date : ℕ → Months → Float → Answer BsDate → Months
place_date y m x (Ok t) = cond (eqb t.year y) (put m (t.month - 1) x) m
place_date y m x (Err k) = m

unfoldable pub place_day : Calendar → ℕ → Months → Float → Option ℕ → Months
place_day c y m x (Some n) = place_date y m x (from_day c n)
place_day c y m x None = m

module _ (s : Sky Float) (c : Calendar) (y : ℕ) where
  unfoldable pub place : Months → Float → Months
  place m x = place_day c y m x (s.day_of x)

  unfoldable pub placed : List Float → Months → Months
  placed [] m = m
  placed (x ∷ xs) m = placed xs (place m x)

-- ---- a turn
module _ (s : Sky Float) (c : Calendar) (y : ℕ) where
  -- after i of the new moons the months stand placed: the rest of them leads to the whole
  abbrev pub Stands : List Float → Months → Months → ℕ → Type 0
  Stands xs m₀ m i = placed s c y (drop i xs) m ≡ placed s c y xs m₀

  pub stands_turn : (xs : List Float) (m₀ m m' : Months) (i : ℕ) → i < length xs → m' ≡ place s c y m (get_or xs i nan) → Stands xs m₀ m i → Stands xs m₀ m' (i + 1)
  unfolding placed
  stands_turn xs m₀ m m' i h e q = rw (add-one, e) (rw (drop-cons xs i nan h) at q)

  pub stands_all : (xs : List Float) (m₀ m : Months) (i : ℕ) → length xs ≤ i → Stands xs m₀ m i → m ≡ placed s c y xs m₀
  unfolding placed
  stands_all xs m₀ m i h q = rw (drop_all i xs h) at q

  module _ (m : Months) (x : Float) where
    -- no day, a day outside the table, a day of another year, a day of the year
    pub place-nothing : None ≡ s.day_of x → m ≡ place s c y m x
    unfolding place place_day
    place-nothing e = rw (← e)

    module _ (k : ℕ) (e : Some k ≡ s.day_of x) where
      pub place-outside : (j : Refusal) → from_day c k ≡ Err j → m ≡ place s c y m x
      unfolding place place_day place_date
      place-outside j f = rw (← e, f)

      module _ (t : BsDate) (f : from_day c k ≡ Ok t) where
        pub place_other : (t.year ≡ y → ⊥) → m ≡ place s c y m x
        unfolding place place_day place_date
        place_other z = rw (← e, f, ne_eqb t.year y z)

        pub place_in : t.year ≡ y → put m (t.month - 1) x ≡ place s c y m x
        unfolding place place_day place_date
        place_in z = rw (← e, f, eq-eqb t.year y z)

-- ---- what the places hold
pub each_length : {A : Type 0} (f : ℕ → A) (k n : ℕ) → length (each f k n) ≡ n
unfolding each
each_length f k zero = refl
each_length f k (suc n) = ap suc (each_length f (k + 1) n)

pub each_at : {A : Type 0} (f : ℕ → A) (k n d : ℕ) (z : A) → d < n → get_or (each f k n) d z ≡ f (k + d)
unfolding each
each_at f k zero d z h = absurd (omega arith)
each_at f k (suc n) zero z h = ap f (omega arith)
each_at f k (suc n) (suc d) z h = each_at f (k + 1) n d z (omega arith) ∙ ap f (omega arith)

-- one place of twelve set
module _ {A : Type 0} (f g : ℕ → A) (v d : A) (j : ℕ) (e : (m : ℕ) → g m ≡ cond (eqb (j + 1) m) v (f m)) where
  set_at : (i : ℕ) → i < 12 → (b : Bool) → eqb (j + 1) (1 + i) ≡ b → get_or (set (each f 1 12) j v) i d ≡ cond b v (f (1 + i))
  set_at i h true q =
      let s : j ≡ i = omega (arith, eqb-true (j + 1) (1 + i) q) in
      rw s (get_or-set_same (each f 1 12) i v d (omega (arith, each_length f 1 12)))
  set_at i h false q =
      get_or-set_other (each f 1 12) j i v d (λ s. eqb-false (j + 1) (1 + i) q (omega arith)) ∙ each_at f 1 12 i d h

  set_each : set (each f 1 12) j v ≡ each g 1 12
  set_each =
      ext_get_or d _ _ (length-set (each f 1 12) j v ∙ each_length f 1 12 ∙ sym (each_length g 1 12))
      (λ i h.
      let l : i < 12 = omega (arith, length-set (each f 1 12) j v, each_length f 1 12) in
      set_at i l (eqb (j + 1) (1 + i)) refl ∙ sym (each_at g 1 12 i d l ∙ e (1 + i)))

module _ (f : ℕ → Option Float) (x : Float) where
  put_over : (j : ℕ) → put (months_by f) j x ≡ months_by (λ m. cond (eqb (j + 1) m) (Some x) (f m))
  unfolding put months_by
  put_over j =
      rw (set_each f (λ m. cond (eqb (j + 1) m) (Some x) (f m)) (Some x) None j (λ m. refl))

  date_over : (y : ℕ) (a : Answer BsDate) → ((t : BsDate) → a ≡ Ok t → 1 ≤ t.month)
      → place_date y (months_by f) x a ≡ months_by (λ m. cond (dated a (λ t. eqb t.year y && eqb t.month m)) (Some x) (f m))
  unfolding place_date dated
  date_over y (Err k) h = refl
  date_over y (Ok t) h = go (eqb t.year y)
    where
      go : (b : Bool) → cond b (put (months_by f) (t.month - 1) x) (months_by f) ≡ months_by (λ m. cond (b && eqb t.month m) (Some x) (f m))
      go true =
          let e : t.month - 1 + 1 ≡ t.month = omega (arith, h t refl) in
          put_over (t.month - 1) ∙ ap (λ (i : ℕ). months_by (λ m. cond (eqb i m) (Some x) (f m))) e
      go false = refl

  day_over : (c : Calendar) (y : ℕ) (o : Option ℕ)
      → place_day c y (months_by f) x o ≡ months_by (λ m. cond (holds o (λ n. dated (from_day c n) (λ t. eqb t.year y && eqb t.month m))) (Some x) (f m))
  unfolding place_day holds
  day_over c y None = refl
  day_over c y (Some n) = date_over y (from_day c n) (λ t q. (month_of_law c n t q).0)

module _ (s : Sky Float) (c : Calendar) (y : ℕ) where
  -- a month's place holds the last that lies in it
  placed_over : (xs : List Float) (f : ℕ → Option Float) → placed s c y xs (months_by f) ≡ months_by (λ m. last_of (in_month s c y m) (f m) xs)
  unfolding placed place last_of in_month
  placed_over [] f = refl
  placed_over (x ∷ xs) f = ap (placed s c y xs) (day_over f x c y (s.day_of x)) ∙ placed_over xs _

  -- from no new moon on
  pub placed_first : (xs : List Float) (m : Months) → m ≡ months_by (λ m. None) → placed s c y xs m ≡ months_by (λ m. last_of (in_month s c y m) None xs)
  placed_first xs m e = ap (placed s c y xs) e ∙ placed_over xs (λ m. None)

-- no month is open yet
pub none_yet : record { opens = replicate 12 None } ≡ months_by (λ m. None)
unfolding months_by each
none_yet = refl

-- the new moon of a place is the one that opens its month
pub month_at_law : (f : ℕ → Option Float) (j : ℕ) → j < 12 → month_at (months_by f) j ≡ f (j + 1)
unfolding month_at months_by
month_at_law f j h = each_at f 1 12 j None h ∙ ap f (let e : 1 + j ≡ j + 1 = omega arith in e)

-- ---- the new moons that a walk wrote to the front of a list of 1,024 places
pub moons_front : (a b : ℕ) (d x : List Float) (n : ℕ) → n ≡ length (moons_around a b) → x ≡ moons_around a b ++ drop n d → length d ≡ 1024
    → ((n ≤ 1024) × (length x ≡ 1024)) × (take n x ≡ moons_around a b)
unfolding moons_around
moons_front a b d x n en ex l =
    let few : n ≤ 1024 = omega (arith, en, starts_bounded (offset elongation_of (target_of 1)) (zero_of a ⊖ dec 35 0) (zero_of b ⊕ dec 5 0)) in
    ((few, over_length (moons_around a b) d ex en (omega arith) ∙ l), over_front (moons_around a b) d ex en)

-- they are those around two days, by 0h of each
pub moons_from : (first last : ℕ) (a b : Float) → a ≡ zero_of first → b ≡ zero_of last → (starts_of 1 (a ⊖ dec 35 0) (b ⊕ dec 5 0)).starts ≡ moons_around first last
unfolding moons_around
moons_from first last a b p q = rw (p, q)
