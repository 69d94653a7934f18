-- The first rows of an accepted table are an accepted table, and so a state can take them one by one. Assumes nothing.
use Prim.Native.Nat.{ℕ, ◌+◌, ◌-◌, ◌*◌, ◌/◌, ◌%◌, ◌≤◌, ◌<◌}
use mathlib.Core.Path.{◌≡◌, sym, ap, ◌∙◌, subst⁻¹}
use mathlib.Core.Bool.{true, false}
use mathlib.Core.List.{List, [], ◌++◌}
use native.Mathlib.Omega.{arith}
use borrow.Author.Tests.{le-leb, eq-eqb}
use lib.ListN.{length, take, drop, length-drop}
use lib.Seq.{length-take-le, get_or-take, take-add, take_all}
use Rattle.paper.specs.Sums.{sum, all}
use Rattle.paper.proofs.Sums.{sum_ext, sum_mono, sum_past, all_at, all_every}
use Rattle.paper.proofs.Tests.{and_left, and_both}
use Rattle.gregorian.specs.Calendar.{day_number}
use Rattle.conversion.specs.declared.Table.{Table}
use Rattle.conversion.specs.Flat.{row_count, lens, len_ok, row_ok, row_days, first_day, date, accepted}
use Rattle.conversion.proofs.Rows.{row_total, row_lens}
use Rattle.conversion.proofs.Accepted.{from_1901, to_2099, facts, accepted_by}
use Rattle.rules.specs.Rules.{accepted_rules}
use Rattle.kept.specs.declared.Kept.{Kept}
use Rattle.kept.specs.declared.After.{After}
use Rattle.kept.specs.State.{startable}
use Rattle.kept.specs.Operations.{empty, take_rules, append_row}
use Rattle.kept.specs.Held.{held, Ready, Holds, StartedAs, DoneAs}
use Rattle.kept.proofs.Outcomes.{started, taken, appended}
use Rattle.kept.proofs.Replies.{not_empty}
use Rattle.patro.specs.Inner.{state_of}

-- ---- the first rows of a table

module _ (rows : List ℕ) (n : ℕ) where
  same_lens : (i m : ℕ) → 13 * i + m < n → lens (take n rows) i m ≡ lens rows i m
  same_lens i m h = get_or-take n rows (13 * i + m) 0 h

  same_sum : (i : ℕ) → 13 * i + 12 < n → sum (lens (take n rows) i) 12 ≡ sum (lens rows i) 12
  same_sum i h = sum_ext (lens (take n rows) i) (lens rows i) 12 (λ m k. same_lens i m (omega arith))

  same_row : (i : ℕ) → 13 * i + 12 < n → row_ok rows i ≡ true → row_ok (take n rows) i ≡ true
  unfolding row_ok
  same_row i h e =
      and_both _ _
      (all_every (len_ok (take n rows) i) 12 (λ m k. rw (same_lens i m (omega arith)) (all_at (len_ok rows i) 12 (and_left (all (len_ok rows i) 12) _ e) m k)))
      (eq-eqb _ _ (same_lens i 12 h ∙ row_total rows i e ∙ sym (same_sum i h)))

  same_days : (k : ℕ) → 13 * k ≤ n → row_days (take n rows) k ≡ row_days rows k
  same_days k h = sum_ext (λ i. sum (lens (take n rows) i) 12) (λ i. sum (lens rows i) 12) k (λ i l. same_sum i (omega arith))

-- whole rows, one at least
pub accepted_front : (t : Table) (rows : List ℕ) (n : ℕ) → accepted t rows ≡ true → n ≤ length rows → n % 13 ≡ 0 → 13 ≤ n → accepted t (take n rows) ≡ true
accepted_front t rows n e h z l =
    let f = facts t rows e in
    let a = f.frame in
    let s = length-take-le n rows h in
    let k : row_count (take n rows) ≡ n / 13 = omega arith in
    let less = sum_mono (λ i. sum (lens rows i) 12) (n / 13) (row_count rows) (omega arith) in
    accepted_by t (take n rows) (record {
      frame = record {
        year_from = a.year_from;
        year_to = a.year_to;
        whole = omega arith;
        some = omega arith;
        few = omega arith;
        real = a.real;
        day_from = a.day_from;
      };
      row = λ i b. same_row rows n i (omega arith) (f.row i (omega arith));
      day_to = rw (k, same_days rows n (n / 13) (omega arith)) (omega (arith, f.day_to));
    })

-- ---- a state of an accepted table

accepted_start : (t : Table) (rows : List ℕ) → accepted t rows ≡ true → startable t ≡ true
unfolding startable
accepted_start t rows e =
    let f = facts t rows e in
    let a = f.frame in
    let b = (row_lens rows 0 0 (f.row 0 (omega arith)) (omega arith)).0 in
    let c = sum_past (lens rows 0) 0 12 (omega arith) in
    let d = sum_past (λ i. sum (lens rows i) 12) 0 (row_count rows) (omega arith) in
    let low : day_number (date 1901 1 1) ≤ day_number (first_day t) = omega (arith, from_1901) in
    let high : day_number (first_day t) ≤ day_number (date 2099 12 31) = omega (arith, to_2099, f.day_to) in
    simp (le-leb _ _ a.year_from, le-leb _ _ a.year_to, a.real, le-leb _ _ low, le-leb _ _ high)

pub accepted_held : (t : Table) (rows : List ℕ) → accepted t rows ≡ true → empty rows ≡ false
accepted_held t rows e = let a = (facts t rows e).frame in not_empty rows (λ z. omega arith)

-- a state that is started holds its table and no row
pub table_held : {t : Table} {r : After Unit} → StartedAs r t → r.state.table ≡ t
table_held s = ap (λ (k : Kept). k.table) s.is

pub none_held : (t : Table) (rows : List ℕ) (r : After Unit) → accepted t rows ≡ true → StartedAs r t → Holds r.state (state_of r.state.table [] [])
none_held t rows r e s = subst⁻¹ (λ (x : Table). Holds r.state (state_of x [] [])) (table_held s) (s.ready (s.answer ∙ sym (started t (accepted_start t rows e))))

-- where a row is left
pub row_left : (t : Table) (rows : List ℕ) (n : ℕ) → accepted t rows ≡ true → n < length rows → n % 13 ≡ 0 → (n + 13 ≤ length rows) × (length rows ≤ 1664)
row_left t rows n e h z = let a = (facts t rows e).frame in (omega arith, omega arith)

-- with the first rows and the next it holds the next
pub next_held : (t : Table) (rows : List ℕ) (n : ℕ) → accepted t rows ≡ true → n < length rows → n % 13 ≡ 0 → (k : Kept) → Holds k (state_of t (take n rows) [])
    → (row : List ℕ) → row ≡ take (n + 13 - n) (drop n rows) → (r : After Unit) → (Ready k → DoneAs r (append_row (held k) row)) → Holds r.state (state_of t (take (n + 13) rows) [])
next_held t rows n e h z k w row f r d =
    let a = row_left t rows n e h z in
    let m : n + 13 - n ≡ 13 = omega arith in
    let l : length row ≡ 13 = rw (f, m) (length-take-le 13 (drop n rows) (simp length-drop (omega arith))) in
    let p : take (n + 13) rows ≡ take n rows ++ row = rw (f, m) (take-add n 13 rows) in
    let g = accepted_front t rows (n + 13) e a.0 (omega arith) (omega arith) in
    let q = appended (state_of t (take n rows) []) row l (rw p at g) in
    rw p (rw (w.state, q) at (d w.ready).holds)

-- row i is the next after the first i, and after the last of them all are held
pub turn_held : (t : Table) (rows : List ℕ) (i : ℕ) → accepted t rows ≡ true → i < length rows / 13 → (k : Kept) → Holds k (state_of t (take (13 * i) rows) [])
    → (row : List ℕ) → row ≡ take (13 * i + 13 - 13 * i) (drop (13 * i) rows) → (r : After Unit) → (Ready k → DoneAs r (append_row (held k) row)) → Holds r.state (state_of t (take (13 * (i + 1)) rows) [])
turn_held t rows i e h k w row f r d =
    let s : 13 * (i + 1) ≡ 13 * i + 13 = omega arith in
    rw s (next_held t rows (13 * i) e (omega arith) (omega arith) k w row f r d)

pub all_held : (t : Table) (rows : List ℕ) (i : ℕ) → accepted t rows ≡ true → length rows / 13 ≤ i → (k : Kept) → Holds k (state_of t (take (13 * i) rows) []) → Holds k (state_of t rows [])
all_held t rows i e h k w =
    let a = (facts t rows e).frame in
    rw (take_all (13 * i) rows (omega (arith, a.whole))) at w

-- and with the rules all
pub rules_held : (t : Table) (rows rules : List ℕ) → accepted_rules rules ≡ true → (k : Kept) → Holds k (state_of t rows [])
    → (r : After Unit) → (Ready k → DoneAs r (take_rules (held k) rules)) → Holds r.state (state_of t rows rules)
rules_held t rows rules e k w r d = rw (w.state, taken (state_of t rows []) rules e) at (d w.ready).holds
