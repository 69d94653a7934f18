-- A float as a word of a line. Assumes nothing.
use Rattle.std.specs.Prelude.{ℕ, cond, List, ◌++◌, Float}
use Rattle.std.specs.Float.{binary64}
use Rattle.std.specs.Float.Ieee.{is_nan, to_bits}
use Rattle.text.specs.Digits.{run}
use Rattle.text.specs.Quoted.{bytes}

-- nan, or 0x and the sixteen digits of its bits
unfoldable pub float_text : Float → List ℕ
float_text x = cond (is_nan x) (bytes "nan") (bytes "0x" ++ run 16 16 (to_bits binary64 x))
