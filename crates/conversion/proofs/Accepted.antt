-- What an accepted year table is known to hold, and what follows for the columns that the code reads. Assumes nothing.
use Rattle.std.specs.Prelude.{Err, Ok, Option, Some, None}
use Rattle.std.proofs.lemmas.Option.{cond_some, none-some}
use Prim.Native.Nat.{ℕ, zero, suc, ◌+◌, ◌-◌, ◌*◌, ◌/◌, ◌≤◌, ◌<◌}
use mathlib.Core.Path.{◌≡◌, refl, sym, ap, ◌∙◌, subst⁻¹}
use mathlib.Core.Bool.{true, false, ◌&&◌, true≢false}
use mathlib.Core.Logic.{⊎_elim}
use mathlib.Core.List.{List}
use native.Mathlib.Nat.{add_comm, one-mul}
use native.Mathlib.Omega.{arith}
use lib.ListN.{length, get_or}
use lib.Dec.{T, leb, eqb}
use borrow.Author.Tests.{leb-true, le-leb, eqb-true, eq-eqb}
use Rattle.paper.specs.declared.Refusal.TheVariants.{BadTable, NoSuchDate}
use Rattle.paper.specs.declared.Refusal.{Refusal}
use Rattle.paper.specs.Answers.{Answer, given}
use Rattle.paper.specs.Sums.{sum, all}
use Rattle.paper.proofs.Sums.{sum_zero, sum_suc, sum_ext, sum_mono, sum_step, all_at, all_every}
use Rattle.paper.proofs.Tests.{and_left, and_right, split, never}
use Rattle.paper.proofs.Answers.{given_on, given_told, given_refused}
use Rattle.gregorian.specs.Calendar.{is_date, day_number}
use Rattle.gregorian.specs.Answers.{number_answer}
use Rattle.gregorian.proofs.Laws.{real_of, number_below, all_number}
use Rattle.conversion.specs.declared.Table.{Table}
use Rattle.conversion.specs.Calendar.{Calendar, valid_bs}
use Rattle.conversion.specs.Flat.{row_count, lens, row_ok, row_days, first_day, date, accepted, flat}
use Rattle.conversion.specs.Inner.{untested, Frame, frame_ok, frame_answer, passed, pass_of_rows, pass_answer, Begins, PlacedIn, Reached, Begun, column, Inside, FoundAt}
use Rattle.conversion.specs.declared.check.Passed.{Passed}
use Rattle.conversion.proofs.Passes.{pass_days, pass_reached}
use Rattle.conversion.proofs.Places.{Within}
use Rattle.conversion.proofs.Rows.{row_total, row_most}

-- the numbers of the first day that a table may have, and of the last
pub from_1901 : day_number (date 1901 1 1) ≡ 2415386
unfolding day_number
from_1901 = refl

pub to_2099 : day_number (date 2099 12 31) ≡ 2488069
unfolding day_number
to_2099 = refl

pub record Facts (t : Table) (rows : List ℕ) : Type 0 where
  pub frame : Frame t (length rows)
  pub row : (i : ℕ) → i < row_count rows → row_ok rows i ≡ true
  pub day_to : day_number (first_day t) + row_days rows (row_count rows) ≤ 2488070

pub facts : (t : Table) (rows : List ℕ) → accepted t rows ≡ true → Facts t rows
unfolding accepted
facts t rows e =
    let n = row_count rows in
    let y = t.first_year in
    let r = is_date t.year t.month t.day in
    let a = and_right (leb 1 y) _ e in
    let b = and_right (leb y 3000) _ a in
    let c = and_right (eqb (length rows) (13 * n)) _ b in
    let d = and_right (leb 1 n) _ c in
    let f = and_right (leb n 128) _ d in
    let g = and_right (all (row_ok rows) n) _ f in
    let h = and_right r _ g in
    let s = day_number (first_day t) in
    let low : day_number (date 1901 1 1) ≤ s = leb-true _ _ (and_left (leb (day_number (date 1901 1 1)) s) _ h) in
    let high : s + row_days rows n - 1 ≤ day_number (date 2099 12 31) = leb-true _ _ (and_right (leb (day_number (date 1901 1 1)) s) _ h) in
    record {
      frame = record {
        year_from = leb-true _ _ (and_left (leb 1 y) _ e);
        year_to = leb-true _ _ (and_left (leb y 3000) _ a);
        whole = eqb-true _ _ (and_left (eqb (length rows) (13 * n)) _ b);
        some = leb-true _ _ (and_left (leb 1 n) _ c);
        few = leb-true _ _ (and_left (leb n 128) _ d);
        real = and_left r _ g;
        day_from = omega (arith, from_1901);
      };
      row = all_at (row_ok rows) n (and_left (all (row_ok rows) n) _ f);
      day_to = omega (arith, to_2099);
    }

-- a table is accepted exactly if it keeps these
pub accepted_by : (t : Table) (rows : List ℕ) → Facts t rows → accepted t rows ≡ true
unfolding accepted
accepted_by t rows f =
    let a = f.frame in
    let low : day_number (date 1901 1 1) ≤ day_number (first_day t) = omega (arith, from_1901) in
    let high : day_number (first_day t) + row_days rows (row_count rows) - 1 ≤ day_number (date 2099 12 31) = omega (arith, to_2099) in
    simp (le-leb _ _ a.year_from, le-leb _ _ a.year_to, eq-eqb _ _ a.whole, le-leb _ _ a.some, le-leb _ _ a.few, all_every (row_ok rows) (row_count rows) f.row, a.real, le-leb _ _ low, le-leb _ _ high)

pub accepted_not : (t : Table) (rows : List ℕ) → (Facts t rows → ⊥) → accepted t rows ≡ false
accepted_not t rows h = never (accepted t rows) (λ e. h (facts t rows e))

-- what else is asked than the rows is asked by one test
pub frame_told : (t : Table) (n : ℕ) → frame_ok t n ≡ true → Frame t n
frame_told t n e =
    let y = leb 1 t.first_year in
    let z = leb t.first_year 3000 in
    let w = eqb n (13 * (n / 13)) in
    let l = leb 1 (n / 13) in
    let m = leb (n / 13) 128 in
    let r = is_date t.year t.month t.day in
    let s = leb 2415386 (day_number (first_day t)) in
    let a = and_left (y && z && (w && l && m) && r) s e in
    let b = and_left (y && z && (w && l && m)) r a in
    let c = and_left (y && z) (w && l && m) b in
    let d = and_right (y && z) (w && l && m) b in
    record {
      year_from = leb-true _ _ (and_left y z c);
      year_to = leb-true _ _ (and_right y z c);
      whole = eqb-true _ _ (and_left w l (and_left (w && l) m d));
      some = leb-true _ _ (and_right w l (and_left (w && l) m d));
      few = leb-true _ _ (and_right (w && l) m d);
      real = and_right (y && z && (w && l && m)) r a;
      day_from = leb-true _ _ (and_right (y && z && (w && l && m) && r) s e);
    }

pub frame_all : (t : Table) (n : ℕ) → Frame t n → frame_ok t n ≡ true
frame_all t n f =
    simp (le-leb _ _ f.year_from, le-leb _ _ f.year_to, eq-eqb _ _ f.whole, le-leb _ _ f.some, le-leb _ _ f.few, f.real, le-leb _ _ f.day_from)

-- what the frame of a table answers: the number of the first day, or 1 for a table that is not accepted
pub frame_is : (t : Table) (rows : List ℕ) (s : ℕ) → Ok s ≡ frame_answer t (length rows) → Begins t rows s
frame_is t rows s e = let g = given_told _ _ _ _ e in record { frame = frame_told t (length rows) g.0; first = g.1 }

pub frame_refused : (t : Table) (rows : List ℕ) (k : Refusal) → Err k ≡ frame_answer t (length rows) → (accepted t rows ≡ false) × (k ≡ BadTable)
frame_refused t rows k e =
    let g = given_refused _ _ _ _ e in
    (accepted_not t rows (λ f. true≢false (sym (frame_all t (length rows) f.frame) ∙ g.0)), g.1)

-- what a pass over the rows tells of a table
module _ (t : Table) (rows : List ℕ) (n until day : ℕ) (r : Option Passed) (h : n ≡ row_count rows) (q : r ≡ pass_of_rows rows n until day) where
  whole : r ≡ pass_of_rows rows (row_count rows) until day
  whole = rw h at q

  pub pass_none : r ≡ None → accepted t rows ≡ false
  pass_none e = accepted_not t rows (λ f. none-some _ (rw (all_every (row_ok rows) (row_count rows) f.row) at (sym e ∙ whole)))

  pub pass_some : (p : Passed) → r ≡ Some p
      → (all (row_ok rows) (row_count rows) ≡ true) × ((p ≡ passed rows (row_count rows) until day) × (p.days ≡ row_days rows (row_count rows)))
  pass_some p e =
      let g = cond_some (all (row_ok rows) (row_count rows)) _ p (sym whole ∙ e) in
      (g.0, (sym g.1, ap (λ (q : Passed). q.days) (sym g.1) ∙ pass_days rows (row_count rows) until day))

-- what a pass over a table answers
pub pass_is : (t : Table) (rows : List ℕ) (until day : ℕ) (p : Passed) → Ok p ≡ pass_answer t rows until day
    → (accepted t rows ≡ true) × ((p.days ≡ row_days rows (row_count rows)) × Reached rows (row_count rows) until day p.row p.before)
pass_is t rows until day p e =
    let n = row_count rows in
    let g = given_told _ _ _ _ e in
    (g.0, (ap (λ (q : Passed). q.days) g.1 ∙ pass_days rows n until day, rw g.1 (pass_reached rows n until day)))

-- a table that is not accepted is refused with 1, whatever is asked
pub refused_table : {A : Type 0} (t : Table) (rows : List ℕ) (k : Refusal) (a : Answer A) → (accepted t rows ≡ false) × (k ≡ BadTable) → Err k ≡ given (accepted t rows) BadTable a
refused_table t rows k a e = rw (e.0, e.1)

-- a table whose frame is refused is not accepted
pub frame_wrong : (t : Table) (rows : List ℕ) (k : Refusal) → Err k ≡ frame_answer t (length rows) → accepted t rows ≡ true → ⊥
frame_wrong t rows k e g = true≢false (sym g ∙ (frame_refused t rows k e).0)

-- the number of the first day that a table has
pub starts : (t : Table) (n : ℕ) → Frame t n → number_answer (first_day t) ≡ Ok (day_number (first_day t))
starts t n f = given_on _ NoSuchDate _ f.real

pub first_small : (t : Table) (n : ℕ) → Frame t n → day_number (first_day t) < 2506332
first_small t n f = omega (arith, number_below (first_day t) (real_of (first_day t) (subst⁻¹ T f.real tt)), all_number)

pub months_in : (rows : List ℕ) (i m : ℕ) → 13 * i + 13 ≤ length rows → m ≤ 12 → Inside rows (13 * i) 1 m
months_in rows i m h l = record { few = omega arith; small = omega arith; inside = λ k b. omega arith }

pub years_in_law : (rows : List ℕ) (i : ℕ) → row_count rows ≤ 128 → i ≤ row_count rows → Inside rows 12 13 i
years_in_law rows i n h = record { few = omega arith; small = omega arith; inside = λ k l. omega arith }

module _ (t : Table) (rows : List ℕ) (f : Facts t rows) where
  pub years_are : (i : ℕ) → i < row_count rows → column rows 12 13 i ≡ sum (lens rows i) 12
  years_are i h = ap (λ (k : ℕ). get_or rows k 0) (add_comm 12 (13 * i)) ∙ row_total rows i (f.row i h)

  pub years_sum : (i : ℕ) → i ≤ row_count rows → sum (column rows 12 13) i ≡ row_days rows i
  years_sum i h = sum_ext _ _ i (λ k l. years_are k (omega arith))

  -- the days before a row
  pub rows_before : (i : ℕ) → i ≤ row_count rows → day_number (first_day t) + row_days rows i ≤ 2488070
  rows_before i h = omega (arith, sum_mono (λ k. sum (lens rows k) 12) i (row_count rows) h)

pub months_are : (rows : List ℕ) (i m : ℕ) → column rows (13 * i) 1 m ≡ lens rows i m
months_are rows i m = ap (λ (k : ℕ). get_or rows (13 * i + k) 0) (one-mul m)

-- what `find` found, for a function that agrees with the one it was asked for
pub found_ext : (f g : ℕ → ℕ) (n r i s : ℕ) → ((k : ℕ) → k < n → f k ≡ g k) → FoundAt f n r i s → FoundAt g n r i s
found_ext f g n r i s h p =
    record {
      index = p.index;
      whole = omega (arith, p.whole, sum_ext f g i (λ k l. h k (omega (arith, p.index))));
      within = λ l. omega (arith, p.within l, h i l);
    }

-- before the end there is a place, the one that `last` gives
pub found_within : (f : ℕ → ℕ) (n r i s : ℕ) → FoundAt f n r i s → r < sum f n → Within f n r i
found_within f n r i s p h =
    let l : i < n = ⊎_elim (λ l. absurd (omega (arith, p.whole, sum_mono f n i l, h))) (λ l. l) (split n i) in
    record { below = l; from = omega (arith, p.whole); to = omega (arith, p.whole, p.within l) }

-- what `find` found in the column of the sums, and in a row
pub year_found : (t : Table) (rows : List ℕ) → Facts t rows → (r i s : ℕ) → FoundAt (column rows 12 13) (row_count rows) r i s → FoundAt (λ k. sum (lens rows k) 12) (row_count rows) r i s
year_found t rows f r i s p = found_ext _ _ (row_count rows) r i s (λ k l. years_are t rows f k l) p

pub record RowDay (rows : List ℕ) (i r m d : ℕ) : Type 0 where
  pub within : Within (lens rows i) 12 r m
  pub whole : r ≡ sum (lens rows i) m + d

pub month_found : (rows : List ℕ) (i r m d : ℕ) → r < sum (lens rows i) 12 → FoundAt (column rows (13 * i) 1) 12 r m d → RowDay rows i r m d
month_found rows i r m d l q =
    let b = found_ext _ (lens rows i) 12 r m d (λ k l. months_are rows i k) q in
    record { within = found_within (lens rows i) 12 r m d b l; whole = sym b.whole }

-- past the last row: what is left lies after all rows
pub past : (rows : List ℕ) (n r i s : ℕ) → FoundAt (λ k. sum (lens rows k) 12) n r i s → n ≤ i → row_days rows n + s ≡ r
past rows n r i s p h =
    let e : i ≡ n = omega (arith, p.index) in
    rw e at p.whole

-- the row that a pass reached: of a year, and of a day
pub row_reached : (t : Table) (rows : List ℕ) → Facts t rows → (i row before : ℕ) → i < row_count rows → Reached rows (row_count rows) i 4294967295 row before → (row ≡ i) × (before ≡ row_days rows i)
row_reached t rows f i row before h r =
    let e : row ≡ i = ⊎_elim (λ l. omega (arith, r.to))
    (λ l. absurd (omega (arith, r.next (omega arith) l, sum_mono (λ k. sum (lens rows k) 12) (row + 1) (row_count rows) (omega arith))))
    (split i row) in
    (e, rw e at r.days)

pub day_reached : (rows : List ℕ) (n r row before : ℕ) → Reached rows n n r row before → FoundAt (λ k. sum (lens rows k) 12) n r row (r - before)
day_reached rows n r row before p =
    record {
      index = p.among;
      whole = omega (arith, p.days, p.day_to);
      within = λ l. omega (arith, p.days, p.day_to, p.next l l, sum_step (λ k. sum (lens rows k) 12) row);
    }

-- an accepted table is the table whose rows are not tested
pub untested_is : (t : Table) (rows : List ℕ) → accepted t rows ≡ true → untested t rows ≡ flat t rows
untested_is t rows e = rw e

pub valid_is : (t : Table) (rows : List ℕ) (y m d : ℕ) → accepted t rows ≡ true → valid_bs (untested t rows) y m d ≡ valid_bs (flat t rows) y m d
valid_is t rows y m d e = ap (λ (k : Calendar). valid_bs k y m d) (untested_is t rows e)

-- in an accepted table, where a day lies
pub placed_by : (t : Table) (rows : List ℕ) (start n i s : ℕ) → Facts t rows → start ≡ day_number (first_day t) → FoundAt (λ k. sum (lens rows k) 12) (row_count rows) (n - start) i s → PlacedIn t rows start n i s
placed_by t rows start n i s f e p =
    record {
      begins = record { frame = f.frame; first = e };
      most = omega (arith, p.whole);
      short = λ l. omega (arith, p.within l, row_most rows i (f.row i l));
      found = λ g. p;
    }

-- by what a pass over it reached
pub placed_pass : (t : Table) (rows : List ℕ) (start n until off : ℕ) (p : Passed) → Begins t rows start → until ≡ row_count rows → off ≡ n - start → Ok p ≡ pass_answer t rows until off
    → PlacedIn t rows start n p.row (off - p.before)
placed_pass t rows start n until off p b u o e =
    let g = pass_is t rows until off p e in
    placed_by t rows start n _ _ (facts t rows g.0) b.first (rw (← o) (day_reached _ _ _ _ _ (rw u at g.1.1)))

-- what `find` found from row i on is found in all rows
sum_on : (f g : ℕ → ℕ) (i n : ℕ) → ((k : ℕ) → f (i + k) ≡ g k) → sum f (i + n) ≡ sum f i + sum g n
sum_on f g i zero h = let e : i + 0 ≡ i = omega arith in rw (e, sum_zero g) (omega arith)
sum_on f g i (suc n) h = let e : i + suc n ≡ i + n + 1 = omega arith in rw e (omega (arith, sum_on f g i n h, sum_suc g n, sum_step f (i + n), h n))

pub found_on : (rows : List ℕ) (r i s k z : ℕ) → Begun rows r i s → FoundAt (column rows (12 + 13 * i) 13) (row_count rows - i) s k z → FoundAt (column rows 12 13) (row_count rows) r (i + k) z
found_on rows r i s k z b p =
    let e : (k : ℕ) → column rows 12 13 (i + k) ≡ column rows (12 + 13 * i) 13 k = λ k. let q : 12 + 13 * (i + k) ≡ 12 + 13 * i + 13 * k = omega arith in ap (λ (j : ℕ). get_or rows j 0) q in
    record {
      index = omega (arith, p.index, b.row);
      whole = omega (arith, b.whole, p.whole, sum_on (column rows 12 13) (column rows (12 + 13 * i) 13) i k e);
      within = λ l. omega (arith, p.within (omega arith), e k);
    }
