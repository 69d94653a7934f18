-- What is claimed of the formulas: each angle is one that sine serves (proofs/Served.antt), and the numbers are those that a book prints
-- (proofs/Meeus.antt). Assumes nothing.
use Rattle.std.specs.Prelude.{ℕ, ◌+◌, ◌*◌, ◌^◌, ◌<◌, Bool, false, not, ◌&&◌, T, leb, Float, Err, Ok}
use Rattle.std.specs.Float.{nan, inf, fin}
use Rattle.std.specs.Float.Ieee.{up, down}
use Rattle.paper.specs.Answers.{Answer}
use Rattle.paper.specs.Floats.{◌⊖◌, ◌⊗◌, dec}
use Rattle.trig.specs.Trig.{in_range}
use Rattle.sky.specs.Angles.{deg}
use Rattle.sky.specs.Sun.{anomaly}
use Rattle.sky.specs.MoonTable.{moon_terms}
use Rattle.sky.specs.Moon as Terms
use Rattle.sky.specs.Moon.{mean_place, argument_of_latitude, moon_args, angle, term_at}

-- each angle whose sine is taken at t centuries is one that sine serves
pub record Served (t : Float) : Type 0 where
  pub rows : (n : ℕ) → n < 60 → T (in_range (angle (moon_args t) (term_at moon_terms n)))
  pub venus : T (in_range (Terms.venus t ⊗ deg))
  pub flattening : T (in_range ((mean_place t ⊖ argument_of_latitude t) ⊗ deg))
  pub jupiter : T (in_range (Terms.jupiter t ⊗ deg))
  pub sun1 : T (in_range (anomaly t ⊗ deg))
  pub sun2 : T (in_range (dec 2 0 ⊗ anomaly t ⊗ deg))
  pub sun3 : T (in_range (dec 3 0 ⊗ anomaly t ⊗ deg))

-- x is not negative and lies within h halves of the last digit of n / 10 ^ k
abbrev pub within : ℕ → ℕ → ℕ → Float → Bool
within h n k nan = false
within h n k (inf s) = false
within h n k (fin s m e) =
    not s && (leb (2 * (m * up e) * 10 ^ k) ((2 * n + h) * down e) && leb (2 * n * down e) (2 * (m * up e) * 10 ^ k + h * down e))

-- x, rounded to k decimals, is n / 10 ^ k
abbrev pub prints : ℕ → ℕ → Float → Bool
prints n k x = within 1 n k x

-- what is answered passes a test
abbrev pub answers : (Float → Bool) → Answer Float → Bool
answers p (Ok x) = p x
answers p (Err k) = false
