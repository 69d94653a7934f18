-- Every line of a week is 78 columns wide, whatever its cells hold, so long as each is padding or has a Gregorian month. Assumes nothing.
use Prim.Native.Nat.{ℕ, zero, suc, ◌+◌, ◌-◌, ◌*◌, ◌/◌, ◌%◌, ◌≤◌, ◌<◌}
use mathlib.Core.Path.{◌≡◌, refl, ap}
use mathlib.Core.Bool.{Bool, true, false, cond}
use mathlib.Core.List.{List, ◌++◌}
use mathlib.Core.Logic.{◌⊎◌, inl, inr}
use native.Mathlib.Omega.{arith}
use borrow.Author.Tests.{eq-eqb}
use lib.Dec.{ltb, eqb, eqb→eq}
use lib.ListN.{length, length-append}
use Rattle.paper.proofs.Tests.{at}
use Rattle.text.specs.Digits.{run}
use Rattle.text.proofs.Runs.{length_run}
use Rattle.text.specs.Quoted.{bytes}
use Rattle.wall.specs.Words.{word, gregorian_months}
use Rattle.wall.specs.Columns.{space, repeated, two, clock, short_date}
use Rattle.wall.specs.Cells.{num, marked, day_line, tithi_line, sun_line, piece, barred, row}

pub two_length : (n : ℕ) → length (two n) ≡ 2
unfolding two
two_length n = go (ltb n 10)
  where
    go : (b : Bool) → length (cond b (space ++ run 10 1 n) (run 10 2 n)) ≡ 2
    go true = ap suc (length_run 10 1 n)
    go false = length_run 10 2 n

pub clock_length : (m : ℕ) → length (clock m) ≡ 5
unfolding clock
clock_length m = go (ltb m 1440)
  where
    go : (b : Bool) → length (cond b (run 10 2 (m / 60) ++ (bytes ":" ++ run 10 2 (m % 60))) (bytes "--:--")) ≡ 5
    go true = simp (length-append, length_run)
    go false = refl

marked_length : (n k : ℕ) (mark blank : List ℕ) → length mark ≡ k → length blank ≡ k → length (marked n mark blank) ≡ k
unfolding marked
marked_length n k mark blank e f = go (eqb n 0)
  where
    go : (b : Bool) → length (cond b blank mark) ≡ k
    go true = f
    go false = e

-- three letters of each month
three : ℕ → Bool
three k = eqb (length (word 3 (k + 1) gregorian_months)) 3

month_length_law : (m : ℕ) → 0 < m → m ≤ 12 → length (word 3 m gregorian_months) ≡ 3
unfolding three word gregorian_months
month_length_law m h l =
    let e : m - 1 + 1 ≡ m = omega arith in
    let t = at three 12 tt (m - 1) (omega arith) in
    rw e at (eqb→eq (length (word 3 (m - 1 + 1) gregorian_months)) 3 t)

-- a cell is padding, or its Gregorian month is one of twelve
abbrev pub Filled : List ℕ → ℕ → Type 0
Filled cells i = (num cells i 0 ≡ 0) ⊎ ((0 < num cells i 2) × (num cells i 2 ≤ 12))

module _ (cells : List ℕ) (i : ℕ) where
  tithi_length : length (tithi_line cells i) ≡ 10
  unfolding tithi_line
  tithi_length = simp (length-append, two_length, marked_length (num cells i 5) 2 (bytes "<<") (bytes "  ") refl refl)

  sun_length : (label : List ℕ) (m : ℕ) → length label ≡ 5 → length (sun_line label m) ≡ 10
  unfolding sun_line
  sun_length label m e = simp (length-append, clock_length, e)

  day_length : 0 < num cells i 2 → num cells i 2 ≤ 12 → length (day_line cells i) ≡ 10
  unfolding day_line short_date
  day_length h l =
      simp (length-append, two_length, marked_length (num cells i 6) 2 (bytes "* ") (bytes "  ") refl refl, month_length_law (num cells i 2) h l)

  -- each line of a cell has ten columns
  pub piece_length : (k : ℕ) → Filled cells i → length (piece k cells i) ≡ 10
  unfolding piece
  piece_length k (inl e) = rw (eq-eqb (num cells i 0) 0 e)
  piece_length k (inr h) = go (eqb (num cells i 0) 0) (eqb k 0) (eqb k 1) (eqb k 2)
    where
      go : (a b c d : Bool) → length (cond a (bytes "          ") (cond b (day_line cells i) (cond c (tithi_line cells i)
          (cond d (sun_line (bytes "rise ") (num cells i 9)) (sun_line (bytes "set  ") (num cells i 10)))))) ≡ 10
      go true b c d = refl
      go false true c d = day_length h.0 h.1
      go false false true d = tithi_length
      go false false false true = sun_length (bytes "rise ") (num cells i 9) refl
      go false false false false = sun_length (bytes "set  ") (num cells i 10) refl

-- n cells with a bar before each
cells_length : (k : ℕ) (cells : List ℕ) (i n : ℕ) → ((j : ℕ) → Filled cells j) → length (repeated (barred k cells) 1 i n) ≡ 11 * n
unfolding repeated
cells_length k cells i zero h = refl
cells_length k cells i (suc n) h =
    let r = cells_length k cells (i + 1) n h in
    let p = piece_length cells i k (h i) in
    omega (arith, length-append (barred k cells i) (repeated (barred k cells) 1 (i + 1) n), length-append (bytes "|") (piece k cells i))

-- a line of a week: 78 columns and the line feed
pub row_length : (k : ℕ) (cells : List ℕ) (i : ℕ) → ((j : ℕ) → Filled cells j) → length (row k cells i) ≡ 79
unfolding row
row_length k cells i h = omega (arith, length-append (repeated (barred k cells) 1 i 7) (bytes "|\n"), cells_length k cells i 7 h)
