-- The tithi is from 1 to 30, for every f64, and the count of twelves by one more of them. Assumes nothing.
use mathlib.Core.Path.{◌≡◌}
use mathlib.Core.Bool.{Bool, true, false, cond}
use Prim.Native.Nat.{ℕ, zero, suc, ◌+◌, ◌*◌, ◌≤◌}
use native.Mathlib.Numerals.{add-one}
use native.Mathlib.Omega.{arith}
use lib.IntN.{pos}
use lib.Ieee.{Float, le}
use Rattle.paper.specs.Floats.{whole}
use Rattle.sky.specs.Tithi.{twelves, tithi_of}

bit_le : (b : Bool) → cond b 1 0 ≤ 1
bit_le true = omega arith
bit_le false = omega arith

pub twelves_le : (x : Float) (n : ℕ) → twelves x n ≤ n
unfolding twelves
twelves_le x zero = omega arith
twelves_le x (suc n) =
    let h = twelves_le x n in
    let b = bit_le (le (whole (pos (12 * (n + 1)))) x) in
    omega arith

pub twelves_more : (x : Float) (n : ℕ) → le (whole (pos (12 * (n + 1)))) x ≡ true → twelves x (n + 1) ≡ twelves x n + 1
unfolding twelves
twelves_more x n e = rw (add-one n) (simp e)

pub twelves_same : (x : Float) (n : ℕ) → le (whole (pos (12 * (n + 1)))) x ≡ false → twelves x (n + 1) ≡ twelves x n
unfolding twelves
twelves_same x n e = rw (add-one n) (simp e (omega arith))

-- never 0, never 31
pub tithi_range : (x : Float) → (1 ≤ tithi_of x) × (tithi_of x ≤ 30)
unfolding tithi_of
tithi_range x = let h = twelves_le x 29 in (omega arith, omega arith)
