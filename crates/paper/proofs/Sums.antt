-- Laws of `sum` and `all`, for any function. Assumes nothing.
use Prim.Native.Nat.{ℕ, zero, suc, ◌+◌, ◌≤◌, ◌<◌}
use mathlib.Core.Path.{◌≡◌, refl, sym, ◌∙◌}
use mathlib.Core.Bool.{Bool, true, false, ◌&&◌}
use mathlib.Core.Logic.{⊎_elim}
use native.Mathlib.Numerals.{add-one}
use native.Mathlib.Omega.{arith}
use Rattle.paper.specs.Sums.{sum, all}
use Rattle.paper.proofs.Tests.{and_left, and_right, split}

pub sum_zero : (f : ℕ → ℕ) → sum f 0 ≡ 0
unfolding sum
sum_zero f = refl

pub sum_suc : (f : ℕ → ℕ) (n : ℕ) → sum f (suc n) ≡ sum f n + f n
unfolding sum
sum_suc f n = refl

pub sum_step : (f : ℕ → ℕ) (n : ℕ) → sum f (n + 1) ≡ sum f n + f n
sum_step f n = rw add-one (sum_suc f n)

-- two functions that agree below n have the same sum
pub sum_ext : (f g : ℕ → ℕ) (n : ℕ) → ((k : ℕ) → k < n → f k ≡ g k) → sum f n ≡ sum g n
sum_ext f g zero h = simp sum_zero
sum_ext f g (suc n) h =
    let ih = sum_ext f g n (λ k l. h k (omega arith)) in
    omega (arith, sum_suc f n, sum_suc g n, ih, h n (omega arith))

-- a later place begins where an earlier one ends, or after
pub sum_mono : (f : ℕ → ℕ) (i n : ℕ) → i ≤ n → sum f i ≤ sum f n
sum_mono f i zero h = let e : i ≡ 0 = omega arith in rw e (omega arith)
sum_mono f i (suc n) h =
    ⊎_elim (λ l. omega (arith, sum_mono f i n l, sum_suc f n))
    (λ l. let e : i ≡ suc n = omega arith in rw e (omega arith)) (split i n)

-- the end of place i is at most the beginning of a later place
pub sum_past : (f : ℕ → ℕ) (i n : ℕ) → i < n → sum f i + f i ≤ sum f n
sum_past f i n h = omega (arith, sum_mono f (suc i) n h, sum_suc f i)

pub all_zero : (p : ℕ → Bool) → all p 0 ≡ true
unfolding all
all_zero p = refl

pub all_suc : (p : ℕ → Bool) (n : ℕ) → all p (suc n) ≡ (all p n && p n)
unfolding all
all_suc p n = refl

pub all_step : (p : ℕ → Bool) (n : ℕ) → all p n ≡ true → p n ≡ true → all p (n + 1) ≡ true
all_step p n a b = rw (add-one, all_suc, a, b)

pub all_at : (p : ℕ → Bool) (n : ℕ) → all p n ≡ true → (k : ℕ) → k < n → p k ≡ true
all_at p zero e k h = absurd (omega arith)
all_at p (suc n) e k h =
    let b = rw all_suc at e in
    ⊎_elim (λ l. all_at p n (and_left (all p n) (p n) b) k l)
    (λ l. let q : k ≡ n = omega arith in rw q (and_right (all p n) (p n) b)) (split (suc k) n)

-- one that fails is enough
pub all_not : (p : ℕ → Bool) (n k : ℕ) → k < n → p k ≡ false → all p n ≡ false
all_not p n k h e = go (all p n) refl
  where
    go : (t : Bool) → all p n ≡ t → t ≡ false
    go true q = sym (all_at p n q k h) ∙ e
    go false q = refl

-- a test that passes at each place passes at all
pub all_every : (p : ℕ → Bool) (n : ℕ) → ((k : ℕ) → k < n → p k ≡ true) → all p n ≡ true
all_every p zero h = all_zero p
all_every p (suc n) h = rw (all_suc, all_every p n (λ k l. h k (omega arith)), h n (omega arith))
