-- Festivals over two good calendars of which the longer begins as the shorter does: lunar months, computed entries and day lists of the shorter are
-- those of the longer. Assumes nothing.
use Rattle.std.specs.Prelude.{Err, None, Ok, Option, Some}
use Prim.Native.Nat.{ℕ, ◌+◌, ◌-◌, ◌≤◌, ◌<◌}
use mathlib.Core.Path.{◌≡◌, refl, sym, ap, ◌∙◌, fun_ext}
use mathlib.Core.Bool.{Bool, true, false, cond, ◌&&◌, and-false}
use mathlib.Core.Logic.{inl, inr, ⊎_elim}
use mathlib.Core.List.{List, []}
use native.Mathlib.Omega.{arith}
use borrow.Author.Tests.{le-leb, lt-leb, lt-ltb, eqb-true, ne_eqb}
use lib.Dec.{eqb}
use Rattle.paper.specs.declared.Refusal.{Refusal}
use Rattle.paper.specs.Answers.{Answer}
use Rattle.paper.proofs.Answers.{answered_same}
use Rattle.paper.proofs.Tests.{split}
use Rattle.conversion.specs.declared.BsDate.{BsDate}
use Rattle.conversion.specs.Calendar.{Calendar, day_at, outside, from_day}
use Rattle.conversion.specs.Claims.{Added, RefusedIf}
use Rattle.conversion.proofs.Days.{Valid, converts, converted, to_from}
use Rattle.conversion.proofs.Longer.{Extends, day_longer, from_day_longer, from_day_added}
use Rattle.rules.specs.declared.Rule.{Rule}
use Rattle.rules.specs.Sky.{Sky}
use Rattle.rules.specs.Days.{next, holds}
use Rattle.rules.specs.Festivals.{dated, first_day, last_day, moons, in_month, opening, rule_day, in_table, entry, entry_on, is_computed, day_pairs, day_list}
use Rattle.rules.specs.Longer.{AddedDay, SameEntry}

-- ---- the tests of a date and of an entry
same_dated : (p : BsDate → Bool) (a b : Answer BsDate) → ((t : BsDate) → a ≡ Ok t → b ≡ Ok t) → ((t : BsDate) (k : Refusal) → a ≡ Err k → b ≡ Ok t → p t ≡ false) → dated a p ≡ dated b p
unfolding dated
same_dated p (Ok t) b h g = rw (h t refl)
same_dated p (Err k) (Ok t) h g = sym (g t k refl refl)
same_dated p (Err k) (Err j) h g = refl

-- an entry that is compared with a day of the table: the table plays no part
in_table_on : (c : Calendar) (n : ℕ) (t : BsDate) → from_day c n ≡ Ok t → (k : ℕ) → holds (in_table c k) (λ j. eqb j n) ≡ eqb k n
unfolding in_table holds dated
in_table_on c n t e k = go (eqb k n) refl
  where
    off : (b : Bool) → eqb k n ≡ false → holds (cond b (Some k) None) (λ j. eqb j n) ≡ false
    off true h = h
    off false h = refl

    go : (b : Bool) → eqb k n ≡ b → holds (cond (dated (from_day c k) (λ t. true)) (Some k) None) (λ j. eqb j n) ≡ b
    go true h = rw (eqb-true k n h, e) (rw (eqb-true k n h) at h)
    go false h = off (dated (from_day c k) (λ t. true)) h

next_holds : {A B : Type 0} (o : Option A) (f : A → Option B) (p : B → Bool) (q : A → Bool) → ((a : A) → holds (f a) p ≡ q a) → holds (next o f) p ≡ holds o q
unfolding next holds
next_holds (Some a) f p q h = h a
next_holds None f p q h = refl

entry_by_day : {I : Type 0} (s : Sky I) (c : Calendar) (n : ℕ) (t : BsDate) → from_day c n ≡ Ok t → (y : ℕ) (r : Rule) → entry_on s c y r n ≡ holds (rule_day s c y r) (λ k. eqb k n)
unfolding entry_on entry
entry_by_day s c n t e y r = next_holds (rule_day s c y r) (in_table c) (λ k. eqb k n) (λ k. eqb k n) (in_table_on c n t e)

-- ---- the new moons of a year
moons_in : {I : Type 0} (s : Sky I) (c : Calendar) (y : ℕ) → c.good ≡ true → c.first ≤ y → y < c.first + c.years → moons s c y ≡ s.new_moons (first_day c y) (last_day c y)
unfolding moons
moons_in s c y g l h = simp (g, le-leb _ _ l, lt-ltb _ _ h)

moons_out : {I : Type 0} (s : Sky I) (c : Calendar) (y : ℕ) → y < c.first → moons s c y ≡ []
unfolding moons
moons_out s c y l = simp (lt-leb _ _ l, and-false)

in_table_answered : (c : Calendar) (n : ℕ) (t : BsDate) → from_day c n ≡ Ok t → in_table c n ≡ Some n
unfolding in_table dated
in_table_answered c n t e = rw e

in_table_refused : (c : Calendar) (n : ℕ) (k : Refusal) → from_day c n ≡ Err k → in_table c n ≡ None
unfolding in_table dated
in_table_refused c n k e = rw e

next_some : {A B : Type 0} (o : Option A) (f : A → Option B) (a : A) → o ≡ Some a → next o f ≡ f a
unfolding next
next_some o f a h = rw h

next_none : {A B : Type 0} (o : Option A) (f : A → Option B) → o ≡ None → next o f ≡ None
unfolding next
next_none o f h = rw h

-- a day that the longer answers is refused by the shorter exactly if it lies in an added year
pub day_refused : (c e : Calendar) → Extends c e → (n : ℕ) (t : BsDate) → from_day e n ≡ Ok t → RefusedIf (from_day c n) (outside c n) (AddedDay c e n)
day_refused c e x n t q =
    let r = from_day_added c e x n t q in
    record {
      when = λ a. let same : a.date ≡ t = answered_same (sym a.is ∙ q) in r.when (rw same at a.added);
      only = λ j h. record { date = t; is = q; added = r.only j h };
    }

-- every month of the calendar has a day
abbrev pub Filled : Calendar → Type 0
Filled c = (i m : ℕ) → i < c.years → m < 12 → 1 ≤ c.len i m

module _ {I : Type 0} (s : Sky I) (c e : Calendar) (x : Extends c e) (w : Filled c) where
  -- a test that no date of an added year passes
  dated_same : (p : BsDate → Bool) → ((t : BsDate) → Added c t.year → p t ≡ false) → (n : ℕ) → dated (from_day c n) p ≡ dated (from_day e n) p
  dated_same p h n =
      same_dated p (from_day c n) (from_day e n) (λ t. from_day_longer c e x n t) (λ t k q r. h t ((from_day_added c e x n t r).only k q))

  in_table_same : (n : ℕ) → SameEntry c e (in_table c n) (in_table e n)
  in_table_same n = go (from_day c n) (from_day e n) refl refl
    where
      go : (a b : Answer BsDate) → from_day c n ≡ a → from_day e n ≡ b → SameEntry c e (in_table c n) (in_table e n)
      go (Ok t) b p q = inl (in_table_answered c n t p ∙ sym (in_table_answered e n t (from_day_longer c e x n t p)))
      go (Err k) (Err j) p q = inl (in_table_refused c n k p ∙ sym (in_table_refused e n j q))
      go (Err k) (Ok t) p q =
          inr (n, (in_table_refused c n k p, (in_table_answered e n t q, (day_refused c e x n t q).only k p)))

  module _ (y : ℕ) (h : y < c.first + c.years) where
    in-month-same : (m : ℕ) → in_month s c y m ≡ in_month s e y m
    unfolding in_month
    in-month-same m =
        fun_ext (λ z. ap (holds (s.day_of z)) (fun_ext (dated_same (λ t. eqb t.year y && eqb t.month m) (λ t l. rw (ne_eqb t.year y (λ q. omega arith))))))

    module _ (l : c.first ≤ y) where
      valid : (m d : ℕ) → 1 ≤ m → m ≤ 12 → 1 ≤ d → d ≤ c.len (y - c.first) (m - 1) → Valid c y m d
      valid m d a b f g =
          record { month = record { good = x.good; year_from = l; year_to = h; month_from = a; month_to = b }; day_from = f; day_to = g }

      -- a day of the year has the same number
      day-same : (m d : ℕ) → Valid c y m d → day_at c (y - c.first) (m - 1) (d - 1) ≡ day_at e (y - e.first) (m - 1) (d - 1)
      day-same m d v =
          let b = day_longer c e x y m d _ (converts c y m d v) in
          answered_same (sym b ∙ converts e y m d (converted e y m d _ b))

      first_same : first_day c y ≡ first_day e y
      first_same = day-same 1 1 (valid 1 1 (omega arith) (omega arith) (omega arith) (w (y - c.first) 0 (omega arith) (omega arith)))

      last-same : last_day c y ≡ last_day e y
      last-same =
          let i = y - c.first in
          let n = c.len i 11 in
          let f = w i 11 (omega arith) (omega arith) in
          let q : n ≡ e.len (y - e.first) 11 = x.len i 11 (omega arith) (omega arith) ∙ ap (λ (z : ℕ). e.len (y - z) 11) x.first in
          day-same 12 n (valid 12 n (omega arith) (omega arith) f (omega arith)) ∙ ap (λ (z : ℕ). day_at e (y - e.first) 11 (z - 1)) q

    moons-same : moons s c y ≡ moons s e y
    moons-same =
        ⊎_elim
        (λ l.
        moons_in s c y x.good l h
        ∙ ap (λ (n : ℕ). s.new_moons n (last_day c y)) (first_same l)
        ∙ ap (s.new_moons (first_day e y)) (last-same l)
        ∙ sym (moons_in s e y x.good_too (omega (arith, x.first)) (omega (arith, x.first, x.years))))
        (λ l. moons_out s c y l ∙ sym (moons_out s e y (omega (arith, x.first))))
        (split c.first y)

    -- the lunar months of a year of the shorter, or of a year before it
    pub opening-same : (m : ℕ) → opening s c y m ≡ opening s e y m
    unfolding opening
    opening-same m = rw (in-month-same m, moons-same)

    rule-day-same : (r : Rule) → rule_day s c y r ≡ rule_day s e y r
    unfolding rule_day
    rule-day-same r = rw (opening-same r.month)

    -- a computed entry differs only where it lies in an added year
    pub entry-same : (r : Rule) → SameEntry c e (entry s c y r) (entry s e y r)
    unfolding entry
    entry-same r = go (rule_day s c y r) refl
      where
        q : rule_day s e y r ≡ rule_day s c y r
        q = sym (rule-day-same r)

        go : (o : Option ℕ) → rule_day s c y r ≡ o → SameEntry c e (next (rule_day s c y r) (in_table c)) (next (rule_day s e y r) (in_table e))
        go None p = inl (next_none _ _ p ∙ sym (next_none _ _ (q ∙ p)))
        go (Some n) p =
            ⊎_elim
            (λ l. inl (next_some _ _ n p ∙ l ∙ sym (next_some _ _ n (q ∙ p))))
            (λ l. inr (l.0, (next_some _ _ n p ∙ l.1.0, (next_some _ _ n (q ∙ p) ∙ l.1.1.0, l.1.1.1))))
            (in_table_same n)

    -- on a day of the shorter no computed entry differs
    entry-on-same : (n : ℕ) (t : BsDate) → from_day c n ≡ Ok t → (r : Rule) → entry_on s c y r n ≡ entry_on s e y r n
    entry-on-same n t g r =
        entry_by_day s c n t g y r ∙ ap (λ o. holds o (λ k. eqb k n)) (rule-day-same r) ∙ sym (entry_by_day s e n t (from_day_longer c e x n t g) y r)

  module _ (rs : List Rule) (n : ℕ) (t : BsDate) (q : from_day c n ≡ Ok t) where
    computed_same : (y : ℕ) → y < c.first + c.years → is_computed s c rs y t n ≡ is_computed s e rs y t n
    unfolding is_computed
    computed_same y h = fun_ext (λ r. rw (entry-on-same y h n t q r))

    -- the list of a day of the shorter
    pub list_same : day_list s c rs t n ≡ day_list s e rs t n
    unfolding day_list day_pairs
    list_same =
        let h : t.year < c.first + c.years = (converted c _ _ _ n (to_from c n t q)).month.year_to in
        rw (computed_same (t.year - 1) (omega arith), computed_same t.year h)
