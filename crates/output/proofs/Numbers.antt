-- Which floats are numbers, and their text. Assumes nothing.
use mathlib.Core.Path.{◌≡◌, refl, sym, ap}
use mathlib.Core.Bool.{true, false, not}
use mathlib.Core.List.{◌++◌}
use lib.Dec.{T}
use lib.Ieee.{Float, nan, inf, fin, binary64, eq, ne, is_nan, to_bits}
use lib.Ieee.Compare.{differs_from_itself}
use Rattle.text.specs.Digits.{run}
use Rattle.text.specs.Quoted.{bytes}
use Rattle.output.specs.Floats.{float_text}

-- what equals itself is a number
pub a_number : (x : Float) → eq x x ≡ true → is_nan x ≡ false
unfolding eq is_nan
a_number nan e = sym e
a_number (inf s) e = refl
a_number (fin s m z) e = refl

pub no_number : (x : Float) → eq x x ≡ false → is_nan x ≡ true
unfolding ne is_nan
no_number x e = ap is_nan (differs_from_itself x (rw e tt))

pub defined : (x : Float) → is_nan x ≡ false → T (not (is_nan x))
defined x e = rw e tt

pub number_text_law : (x : Float) → is_nan x ≡ false → bytes "0x" ++ run 16 16 (to_bits binary64 x) ≡ float_text x
unfolding float_text
number_text_law x e = rw e

pub nan_text : (x : Float) → is_nan x ≡ true → bytes "nan" ≡ float_text x
unfolding float_text
nan_text x e = rw e
