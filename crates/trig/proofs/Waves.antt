-- Sine by its parts, and a loop that goes over two lists. Assumes nothing.
use mathlib.Core.Path.{◌≡◌, refl, ap}
use mathlib.Core.List.{List, [], ◌∷◌, map}
use Prim.Native.Nat.{ℕ, zero, suc, ◌<◌}
use native.Mathlib.Nat.{not-suc-le-zero}
use native.Mathlib.Omega.{arith}
use lib.Ieee.{Float}
use lib.ListN.{length, get_or, set}
use lib.Lanes.{zip2}
use Rattle.trig.specs.Trig.{magnitude, swing, sine_above, sine}
use Rattle.trig.specs.Inner.{sine_wave, sine_of_wave}

-- sine is the wave of the size, cut and with the sign
pub sine_parts : (x : Float) → sine_of_wave x (sine_wave (magnitude x)) ≡ sine x
unfolding sine_of_wave sine_wave swing sine_above sine
sine_parts x = refl

pub sines_parts : (xs : List Float) → zip2 sine_of_wave xs (map sine_wave (map magnitude xs)) ≡ map sine xs
sines_parts [] = refl
sines_parts (x ∷ xs) = rw (sine_parts x, sines_parts xs)

-- the first i places of the second list hold what f makes of both, the others what they held
unfoldable pub over : (Float → Float → Float) → ℕ → List Float → List Float → List Float
over f zero xs ys = ys
over f (suc i) [] ys = ys
over f (suc i) (x ∷ xs) [] = []
over f (suc i) (x ∷ xs) (y ∷ ys) = f x y ∷ over f i xs ys

module _ (f : Float → Float → Float) where
  pub over_none : (xs ys : List Float) → ys ≡ over f 0 xs ys
  unfolding over
  over_none xs ys = refl

  pub over_length : (i : ℕ) (xs ys : List Float) → length (over f i xs ys) ≡ length ys
  unfolding over
  over_length zero xs ys = refl
  over_length (suc i) [] ys = refl
  over_length (suc i) (x ∷ xs) [] = refl
  over_length (suc i) (x ∷ xs) (y ∷ ys) = ap suc (over_length i xs ys)

  pub over_more : (i : ℕ) (xs ys : List Float) (d e : Float) → i < length xs → length xs ≡ length ys → set (over f i xs ys) i (f (get_or xs i d) (get_or (over f i xs ys) i e)) ≡ over f (suc i) xs ys
  unfolding over
  over_more i [] ys d e h l = absurd (not-suc-le-zero h)
  over_more zero (x ∷ xs) [] d e h l = absurd (let bad : ⊥ = omega arith in bad)
  over_more zero (x ∷ xs) (y ∷ ys) d e h l = refl
  over_more (suc i) (x ∷ xs) [] d e h l = absurd (let bad : ⊥ = omega arith in bad)
  over_more (suc i) (x ∷ xs) (y ∷ ys) d e h l = ap (λ (s : List Float). f x y ∷ s) (over_more i xs ys d e (omega arith) (omega arith))

  pub over_all : (xs ys : List Float) → length xs ≡ length ys → over f (length xs) xs ys ≡ zip2 f xs ys
  unfolding over
  over_all [] [] l = refl
  over_all [] (y ∷ ys) l = absurd (let bad : ⊥ = omega arith in bad)
  over_all (x ∷ xs) [] l = absurd (let bad : ⊥ = omega arith in bad)
  over_all (x ∷ xs) (y ∷ ys) l = ap (λ (s : List Float). f x y ∷ s) (over_all xs ys (omega arith))
