-- A month that is asked for: which refusal comes first, and what is known where none does. Assumes nothing.
use Rattle.std.specs.Prelude.{Err, Ok}
use Prim.Native.Nat.{ℕ, zero, suc, ◌+◌, ◌-◌, ◌≤◌, ◌<◌}
use mathlib.Core.Path.{◌≡◌, refl, ap, ◌∙◌}
use mathlib.Core.Bool.{Bool, true}
use mathlib.Core.List.{List}
use native.Mathlib.Omega.{arith}
use Rattle.paper.specs.declared.Refusal.{Refusal}
use Rattle.paper.specs.declared.Refusal.TheVariants.{BadTable, BadRules, NoSuchDate, NoRoom}
use Rattle.paper.specs.Answers.{given, then}
use Rattle.paper.proofs.Answers.{answered_same, given_answered, given_on, given_then, then_answered}
use Rattle.gregorian.specs.declared.Date.{Date}
use Rattle.gregorian.specs.Answers.{real, number_answer}
use Rattle.conversion.specs.declared.Table.{Table}
use Rattle.conversion.specs.Calendar.{Calendar, of_month, day_at, month_len}
use Rattle.conversion.specs.Flat.{accepted, flat}
use Rattle.conversion.proofs.Accepted.{facts}
use Rattle.conversion.proofs.Rows.{row_lens}
use Rattle.conversion.proofs.Days.{InTable, Valid, in_month_law, valid_on}
use Rattle.rules.specs.declared.lists.Day.{Day}
use Rattle.rules.specs.Lent.{accepting}
use Rattle.rules.specs.Festivals.{Pair}
use Rattle.rules.proofs.Lent.{given_not, lent_on, lent_told, lent_not}
use Rattle.panchanga.specs.declared.lunar.Reading.{Reading}
use Rattle.festivals.specs.Months.{each}
use Rattle.grid.specs.Month.{Grid, day_on, list_on, cell_on, grid_of, fitted, month_grid}

-- ---- the refusals, in their order

module _ (c : Calendar) (ok : Bool) (list : Day → List Pair) (reading : Day → Reading) (today : Date) (y m a b : ℕ) where
  -- what is lent is refused
  pub not_lent : (k : Refusal) → Err k ≡ accepting c ok → month_grid c ok list reading today y m a b ≡ Err k
  unfolding month_grid
  not_lent k e = lent_not c ok _ k e

  -- today has no number
  pub no_today : c.good ≡ true → ok ≡ true → (k : Refusal) → Err k ≡ number_answer today → month_grid c ok list reading today y m a b ≡ Err k
  unfolding month_grid
  no_today g o k e = lent_on c ok _ g o ∙ given_not (real today) NoSuchDate k _ _ e

  -- the rest is a question about a month, and goes by way of the month's length
  by_month : ok ≡ true → real today ≡ true
      → month_grid c ok list reading today y m a b ≡ of_month c y m (fitted (grid_of list reading today y m (day_at c (y - c.first) (m - 1) 0) (c.len (y - c.first) (m - 1))) a b)
  unfolding month_grid
  by_month h k = ap (given c.good BadTable) (given_on ok BadRules _ h ∙ given_on (real today) NoSuchDate _ k)

  pub by_length : ok ≡ true → real today ≡ true
      → month_grid c ok list reading today y m a b ≡ then (month_len c y m) (λ n. fitted (grid_of list reading today y m (day_at c (y - c.first) (m - 1) 0) n) a b)
  unfolding month_len
  by_length h k = by_month h k ∙ simp (given_then, then_answered)

  -- what is known of a month that is answered
  pub record Told (g : Grid) : Type 0 where
    pub month : InTable c y m
    pub rules : ok ≡ true
    pub is_date_law : real today ≡ true
    pub grid : grid_of list reading today y m (day_at c (y - c.first) (m - 1) 0) (c.len (y - c.first) (m - 1)) ≡ g

  pub told : (g : Grid) → month_grid c ok list reading today y m a b ≡ Ok g → Told g
  unfolding month_grid fitted
  told g h =
      let p = lent_told c ok _ h in
      let r = given_answered (real today) NoSuchDate _ p.2 in
      let k = in_month_law c y m _ (given_on c.good BadTable _ p.0 ∙ r.1) in
      record { month = k.0; rules = p.1; is_date_law = r.0; grid = answered_same (given_answered _ NoRoom _ k.1).1 }

-- ---- a month of an accepted table

pub record Placed (first days : ℕ) : Type 0 where
  pub some : 1 ≤ days
  pub few : days ≤ 32
  pub from : 2415386 ≤ first
  pub to : first + days ≤ 2488070

module _ (t : Table) (rows : List ℕ) (e : accepted t rows ≡ true) (y m n : ℕ) (k : InTable (flat t rows) y m) (q : (flat t rows).len (y - t.first_year) (m - 1) ≡ n) where
  pub in_range_law : Placed (day_at (flat t rows) (y - t.first_year) (m - 1) 0) n
  in_range_law =
      let f = facts t rows e in
      let l = row_lens rows (y - t.first_year) (m - 1) (f.row (y - t.first_year) (omega (arith, k))) (omega (arith, k)) in
      let v : Valid (flat t rows) y m n = record { month = k; day_from = omega (arith, l, q); day_to = omega (arith, q) } in
      let o = valid_on (flat t rows) y m n v in
      record {
        some = omega (arith, l, q);
        few = omega (arith, l, q);
        from = omega (arith, f.frame);
        to = omega (arith, o.to, f.day_to, l, q);
      }

-- ---- two ways to make the lists

each_ext : {A : Type 0} (f g : ℕ → A) (k n : ℕ) → ((d : ℕ) → d < k + n → f d ≡ g d) → each f k n ≡ each g k n
unfolding each
each_ext f g k zero h = refl
each_ext f g k (suc n) h = rw (h k (omega arith), each_ext f g (k + 1) n (λ d l. h d (omega arith)))

pub grid_ext : (list other : Day → List Pair) (reading : Day → Reading) (today : Date) (y m first n : ℕ) → ((d : ℕ) → d < n → list (day_on y m first d) ≡ other (day_on y m first d))
    → grid_of list reading today y m first n ≡ grid_of other reading today y m first n
unfolding grid_of
grid_ext list other reading today y m first n h =
    let l = each_ext (list_on list reading today y m first) (list_on other reading today y m first) 0 n (λ d k. h d (omega arith)) in
    let c = each_ext (cell_on list reading today y m first) (cell_on other reading today y m first) 0 n (λ d k. let e = h d (omega arith) in rw e) in
    rw (l, c)
