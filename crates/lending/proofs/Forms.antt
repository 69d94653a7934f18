-- How many numbers a form is. Assumes nothing.
use Prim.Native.Nat.{ℕ, zero, suc, ◌+◌, ◌*◌, ◌≤◌, ◌<◌}
use mathlib.Core.Path.{◌≡◌, refl, sym, ap, ◌∙◌}
use mathlib.Core.Bool.{Bool, true, false, cond}
use mathlib.Core.Logic.{⊎_elim}
use native.Mathlib.Nat.{not-suc-le-zero, le_of_suc-le-suc, eq-or-lt_of_le}
use native.Mathlib.Numerals.{add-one}
use native.Mathlib.Omega.{arith}
use lib.Dec.{eqb}
use borrow.Author.Tests.{eq-eqb, ne_eqb}
use Rattle.lending.specs.Lending.{ones, numbers_in}

-- one number more is one digit more
pub ones_more : (n : ℕ) → ones (n + 1) ≡ ones n * 10 + 1
unfolding ones
ones_more n = rw add-one

-- more numbers are a larger form
ones_above : (n m : ℕ) → m < n → ones m < ones n
unfolding ones
ones_above zero m h = absurd (not-suc-le-zero h)
ones_above (suc n) m h =
    ⊎_elim (λ e. let q : ones m ≡ ones n = ap ones e in omega arith)
    (λ l. let q = ones_above n m l in omega arith)
    (eq-or-lt_of_le (le_of_suc-le-suc h))

-- the form of fifteen numbers is a u64 with room to spare
pub ones_fits : (n : ℕ) → n ≤ 15 → ones n < 1111111111111111
unfolding ones
ones_fits n h = let e : ones 16 ≡ 1111111111111111 = refl in
    let q = ones_above 16 n (omega arith) in omega arith

-- a form that is of n + 1 numbers is of no other count
pub numbers_found : (form n : ℕ) → form ≡ ones n * 10 + 1 → (most : ℕ) → n < most → n + 1 ≡ numbers_in form most
unfolding numbers_in
numbers_found form n e zero h = absurd (not-suc-le-zero h)
numbers_found form n e (suc most) h =
    let f : form ≡ ones (n + 1) = e ∙ sym (ones_more n) in
    ⊎_elim (λ q. let s : n + 1 ≡ suc most = omega arith in rw (s, eq-eqb form (ones (suc most)) (f ∙ ap ones s)))
    (λ l. let g = ones_above (suc most) (n + 1) (omega arith) in
    let d = numbers_found form n e most l in
    rw (ne_eqb form (ones (suc most)) (λ q. omega arith), d))
    (eq-or-lt_of_le (le_of_suc-le-suc h))

-- a form of no count up to n that is not of n + 1 numbers is of none of these either
pub numbers_none : (form n : ℕ) → numbers_in form n ≡ 0 → (form ≡ ones n * 10 + 1 → ⊥) → numbers_in form (n + 1) ≡ 0
unfolding numbers_in ones
numbers_none form n z e = rw (add-one, ne_eqb form (ones n * 10 + 1) e, z)

-- a count is at most what was asked
pub numbers_most : (form most : ℕ) → numbers_in form most ≤ most
unfolding numbers_in
numbers_most form zero = omega arith
numbers_most form (suc most) = either (eqb form (ones (suc most))) (numbers_most form most)
  where
    either : (t : Bool) → numbers_in form most ≤ most → cond t (suc most) (numbers_in form most) ≤ suc most
    either true h = omega arith
    either false h = omega arith
