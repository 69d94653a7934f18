-- The turns of the loops over a table's numbers, over plain variables. Assumes nothing.
use Rattle.std.proofs.Common.{◌≡◌, ℕ, suc, ◌+◌, ◌-◌, ◌<◌, ◌≤◌, true, false, cond, eqb, ltb, List, length, get_or, drop, sym, ap, ◌∙◌, arith, le-ltb, lt-ltb, eq-eqb, ne_eqb, le-leb}
use borrow.Author.Tests.{lt-leb}
use Rattle.std.specs.Prelude.{None, Some, Ok, Err}
use Rattle.paper.specs.declared.Refusal.{Refusal}
use Rattle.paper.specs.Sums.{sum}
use Rattle.text.proofs.Texts.{cut, over}
use Rattle.gregorian.specs.Answers.{number_answer}
use Rattle.conversion.specs.declared.Table.{Table}
use Rattle.conversion.specs.Flat.{row_count, lens, first_day, accepted}
use Rattle.tables.specs.declared.broken.Broken.TheVariants as B
use Rattle.tables.specs.Breaks.{column_from, column, row_from, dated, place, first_broken}
use Rattle.tables.specs.Shared.{shared}

-- ---- the columns of a row

module _ (rows : List ℕ) (i m : ℕ) (h : m < 12) {n : ℕ} (e : n ≡ lens rows i m) where
  pub column_short : n < 29 → Some m ≡ column_from rows i (12 - m) m
  unfolding column_from
  column_short l =
      let q : 12 - m ≡ suc (11 - m) = omega arith in
      rw (q, ← e, lt-leb 29 n l)

  pub column_long : 29 ≤ n → 32 < n → Some m ≡ column_from rows i (12 - m) m
  unfolding column_from
  column_long k l =
      let q : 12 - m ≡ suc (11 - m) = omega arith in
      rw (q, ← e, le-leb 29 n k, lt-leb n 32 l)

  pub column_turn : 29 ≤ n → n ≤ 32 → column_from rows i (12 - (m + 1)) (m + 1) ≡ column_from rows i (12 - m) m
  unfolding column_from
  column_turn k l =
      let q : 12 - m ≡ suc (11 - m) = omega arith in
      let r : 12 - (m + 1) ≡ 11 - m = omega arith in
      rw (q, r, ← e, le-leb 29 n k, le-leb n 32 l)

module _ (rows : List ℕ) (i m days : ℕ) (h : 12 ≤ m) (l : m ≤ 12) (s : days ≡ sum (lens rows i) m) {n : ℕ} (e : n ≡ lens rows i 12) where
  pub column_good : n ≡ days → None ≡ column_from rows i (12 - m) m
  unfolding column_from
  column_good k =
      let z : m ≡ 12 = omega arith in
      let q : 12 - m ≡ 0 = omega arith in
      let f : lens rows i 12 ≡ sum (lens rows i) 12 = sym e ∙ k ∙ s ∙ ap (sum (lens rows i)) z in
      rw (q, eq-eqb (lens rows i 12) (sum (lens rows i) 12) f)

  pub column_sum : (n ≡ days → ⊥) → Some 12 ≡ column_from rows i (12 - m) m
  unfolding column_from
  column_sum k =
      let z : m ≡ 12 = omega arith in
      let q : 12 - m ≡ 0 = omega arith in
      let f : lens rows i 12 ≡ sum (lens rows i) 12 → ⊥ = λ g. k (e ∙ g ∙ sym (s ∙ ap (sum (lens rows i)) z)) in
      rw (q, ne_eqb (lens rows i 12) (sum (lens rows i) 12) f)

-- ---- the rows of a table

module _ (rows : List ℕ) (n i : ℕ) where
  pub row_over : n ≤ i → B.LastDay ≡ row_from rows (n - i) i
  unfolding row_from
  row_over h =
      let q : n - i ≡ 0 = omega arith in
      rw q

  module _ (h : i < n) where
    pub row_here : {m : ℕ} → Some m ≡ column rows i → {k : ℕ} → k ≡ lens rows i m → B.Cell i m k ≡ row_from rows (n - i) i
    unfolding row_from
    row_here e f =
        let q : n - i ≡ suc (n - (i + 1)) = omega arith in
        rw (q, ← e, f)

    pub row_turn : None ≡ column rows i → row_from rows (n - (i + 1)) (i + 1) ≡ row_from rows (n - i) i
    unfolding row_from
    row_turn e =
        let q : n - i ≡ suc (n - (i + 1)) = omega arith in
        rw (q, ← e)

-- ---- the lines of a table, in their order

module _ (t : Table) (rows : List ℕ) where
  pub year_low : t.first_year < 1 → B.FirstYear ≡ place t rows
  unfolding place
  year_low h = rw (lt-ltb t.first_year 1 h)

  module _ (a : 1 ≤ t.first_year) where
    pub year_high : 3000 < t.first_year → B.FirstYear ≡ place t rows
    unfolding place
    year_high h = rw (le-ltb t.first_year 1 a, lt-ltb 3000 t.first_year h)

    module _ (b : t.first_year ≤ 3000) {n : ℕ} (e : n ≡ row_count rows) where
      pub rows_none : n < 1 → B.NoRow ≡ place t rows
      unfolding place
      rows_none h = rw (le-ltb t.first_year 1 a, le-ltb 3000 t.first_year b, ← e, lt-ltb n 1 h)

      module _ (c : 1 ≤ n) where
        pub rows-many : 128 < n → B.ManyRows ≡ place t rows
        unfolding place
        rows-many h = rw (le-ltb t.first_year 1 a, le-ltb 3000 t.first_year b, ← e, le-ltb n 1 c, lt-ltb 128 n h)

        module _ (d : n ≤ 128) where
          in_bounds : dated (number_answer (first_day t)) (row_from rows n 0) ≡ place t rows
          unfolding place
          in_bounds = rw (le-ltb t.first_year 1 a, le-ltb 3000 t.first_year b, ← e, le-ltb n 1 c, le-ltb 128 n d)

          pub day_none : {k : Refusal} → Err k ≡ number_answer (first_day t) → B.NoDate ≡ place t rows
          day_none f = rw (← f) at in_bounds

          module _ {k : ℕ} (f : Ok k ≡ number_answer (first_day t)) where
            pub day-early : k < 2415386 → B.FirstDay ≡ place t rows
            day-early h = rw (← f, lt-ltb k 2415386 h) at in_bounds

            pub rows_left : 2415386 ≤ k → row_from rows n 0 ≡ place t rows
            rows_left h = rw (← f, le-ltb k 2415386 h) at in_bounds

  pub whole : accepted t rows ≡ true → None ≡ first_broken t rows
  unfolding first_broken
  whole e = rw e

  pub broken : accepted t rows ≡ false → Some (place t rows) ≡ first_broken t rows
  unfolding first_broken
  broken e = rw e
