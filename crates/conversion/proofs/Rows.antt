-- A row of a lent table: the test of its rule from what is known of its numbers. Assumes nothing.
use Rattle.std.specs.Prelude.{Some, None}
use Prim.Native.Nat.{ℕ, zero, suc, ◌*◌, ◌%◌, ◌≤◌, ◌<◌}
use mathlib.Core.Path.{◌≡◌, refl, sym}
use mathlib.Core.Bool.{Bool, true, false, ◌&&◌, cond}
use mathlib.Core.List.{List}
use native.Mathlib.Omega.{arith}
use borrow.Author.Tests.{leb-true, eqb-true}
use lib.Dec.{leb, eqb}
use Rattle.std.proofs.lemmas.Option.{cond_some, none-some}
use Rattle.paper.specs.Sums.{sum, all}
use Rattle.paper.proofs.Sums.{sum_zero, sum_suc, sum_ext, all_suc, all_at}
use Rattle.paper.proofs.Tests.{and_left, and_right}
use Rattle.conversion.specs.Flat.{lens, len_ok, row_ok, row_days}
use Rattle.conversion.specs.Inner.{row_answer}

-- the numbers of a row below 64 days, which is what they are where each has 29 to 32
abbrev pub low : List ℕ → ℕ → ℕ → ℕ
low rows i m = lens rows i m % 64

pub low_sum : (rows : List ℕ) (i : ℕ) → all (len_ok rows i) 12 ≡ true → sum (low rows i) 12 ≡ sum (lens rows i) 12
low_sum rows i e =
    sum_ext (low rows i) (lens rows i) 12
    (λ m h. let k : lens rows i m ≤ 32 = leb-true _ _ (and_right (leb 29 (lens rows i m)) _ (all_at (len_ok rows i) 12 e m h)) in omega arith)

-- the test of a row by these
pub row_flag : (rows : List ℕ) (i : ℕ) → (all (len_ok rows i) 12 && eqb (lens rows i 12) (sum (low rows i) 12)) ≡ row_ok rows i
unfolding row_ok
row_flag rows i = go (all (len_ok rows i) 12) refl
  where
    go : (b : Bool) → all (len_ok rows i) 12 ≡ b → (b && eqb (lens rows i 12) (sum (low rows i) 12)) ≡ (b && eqb (lens rows i 12) (sum (lens rows i) 12))
    go true e = rw (low_sum rows i e)
    go false e = refl

-- what is answered of a row by these
pub row_says : (rows : List ℕ) (i : ℕ) (good : Bool) (days : ℕ) → good ≡ all (len_ok rows i) 12 → days ≡ sum (low rows i) 12
    → cond (good && eqb (lens rows i 12) days) (Some days) None ≡ row_answer rows i
unfolding row_ok
row_says rows i good days g s = rw (g, s, row_flag rows i) (go (row_ok rows i) refl)
  where
    go : (b : Bool) → row_ok rows i ≡ b → cond b (Some (sum (low rows i) 12)) None ≡ cond b (Some (sum (lens rows i) 12)) None
    go true e = rw (low_sum rows i (and_left (all (len_ok rows i) 12) _ e))
    go false e = refl

-- what the answer tells of a row
pub row_told : (rows : List ℕ) (i days : ℕ) → Some days ≡ row_answer rows i → (row_ok rows i ≡ true) × (days ≡ sum (lens rows i) 12)
row_told rows i days e = let p = cond_some (row_ok rows i) _ days (sym e) in (p.0, sym p.1)

pub row_broken : (rows : List ℕ) (i : ℕ) → None ≡ row_answer rows i → row_ok rows i ≡ false
row_broken rows i e = go (row_ok rows i) e
  where
    go : (b : Bool) → None ≡ cond b (Some (sum (lens rows i) 12)) None → b ≡ false
    go true q = absurd (none-some _ q)
    go false q = refl

-- months of 29 to 32 days: their sum
pub lens_sum : (rows : List ℕ) (i n : ℕ) → all (len_ok rows i) n ≡ true → (29 * n ≤ sum (lens rows i) n) × (sum (lens rows i) n ≤ 32 * n)
lens_sum rows i zero e = rw (sum_zero (lens rows i)) (omega arith)
lens_sum rows i (suc n) e =
    let a = rw all_suc at e in
    let h = lens_sum rows i n (and_left (all (len_ok rows i) n) _ a) in
    let k = and_right (all (len_ok rows i) n) _ a in
    let low : 29 ≤ lens rows i n = leb-true _ _ (and_left (leb 29 (lens rows i n)) _ k) in
    let high : lens rows i n ≤ 32 = leb-true _ _ (and_right (leb 29 (lens rows i n)) _ k) in
    omega (arith, h.0, h.1, sum_suc (lens rows i) n)

-- what a good row holds
pub row_total : (rows : List ℕ) (i : ℕ) → row_ok rows i ≡ true → lens rows i 12 ≡ sum (lens rows i) 12
unfolding row_ok
row_total rows i e = eqb-true _ _ (and_right (all (len_ok rows i) 12) _ e)

pub row_lens : (rows : List ℕ) (i m : ℕ) → row_ok rows i ≡ true → m < 12 → (29 ≤ lens rows i m) × (lens rows i m ≤ 32)
unfolding row_ok
row_lens rows i m e h =
    let k = all_at (len_ok rows i) 12 (and_left (all (len_ok rows i) 12) _ e) m h in
    (leb-true _ _ (and_left (leb 29 (lens rows i m)) _ k), leb-true _ _ (and_right (leb 29 (lens rows i m)) _ k))

pub row_most : (rows : List ℕ) (i : ℕ) → row_ok rows i ≡ true → sum (lens rows i) 12 ≤ 384
unfolding row_ok
row_most rows i e = omega (arith, (lens_sum rows i 12 (and_left (all (len_ok rows i) 12) _ e)).1)

-- the days of good rows
pub rows_most : (rows : List ℕ) (n : ℕ) → all (row_ok rows) n ≡ true → row_days rows n ≤ 384 * n
rows_most rows zero e = omega (arith, sum_zero (λ i. sum (lens rows i) 12))
rows_most rows (suc n) e =
    let a = rw all_suc at e in
    omega (arith, sum_suc (λ i. sum (lens rows i) 12) n, rows_most rows n (and_left (all (row_ok rows) n) _ a), row_most rows n (and_right (all (row_ok rows) n) _ a))
