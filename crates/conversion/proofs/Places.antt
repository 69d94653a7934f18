-- Places one after the other, place k being f k long: each number below their sum lies in one place alone, and `last` finds it.
-- Assumes nothing.
use Prim.Native.Nat.{ℕ, zero, suc, ◌+◌, ◌≤◌, ◌<◌}
use mathlib.Core.Path.{◌≡◌}
use mathlib.Core.Logic.{⊎_elim}
use native.Mathlib.Omega.{arith}
use borrow.Author.Tests.{le-leb, lt-leb}
use Rattle.paper.specs.Sums.{sum}
use Rattle.paper.proofs.Sums.{sum_zero, sum_suc, sum_past}
use Rattle.paper.proofs.Tests.{split}
use Rattle.conversion.specs.Calendar.{last}

-- r lies in place i
pub record Within (f : ℕ → ℕ) (n r i : ℕ) : Type 0 where
  pub below : i < n
  pub from : sum f i ≤ r
  pub to : r < sum f i + f i

pub within_one_law : (f : ℕ → ℕ) (n r i j : ℕ) → Within f n r i → Within f n r j → i ≡ j
within_one_law f n r i j a b =
    ⊎_elim (λ l. ⊎_elim (λ k. omega arith) (λ k. omega (arith, sum_past f i j k)) (split j i))
    (λ l. omega (arith, sum_past f j i l)) (split i j)

last_here : (f : ℕ → ℕ) (n r : ℕ) → sum f n ≤ r → last f (suc n) r ≡ n
unfolding last
last_here f n r h = simp (le-leb _ _ h)

last_on : (f : ℕ → ℕ) (n r : ℕ) → r < sum f n → last f (suc n) r ≡ last f n r
unfolding last
last_on f n r h = simp (lt-leb _ _ h)

pub last_within : (f : ℕ → ℕ) (n r : ℕ) → r < sum f n → Within f n r (last f n r)
last_within f zero r h = absurd (omega (arith, sum_zero f))
last_within f (suc n) r h =
    ⊎_elim
    (λ l. rw (last_here f n r l) (record { below = omega arith; from = l; to = omega (arith, sum_suc f n) }))
    (λ l. let w = last_within f n r l in
    rw (last_on f n r l) (record { below = omega arith; from = w.from; to = w.to }))
    (split (sum f n) r)

pub last_is : (f : ℕ → ℕ) (n r i : ℕ) → Within f n r i → last f n r ≡ i
last_is f n r i w =
    within_one_law f n r (last f n r) i (last_within f n r (omega (arith, sum_past f i n w.below))) w
