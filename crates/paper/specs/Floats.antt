-- Rust's operators on f64 as infix symbols, each rounded once, and the ways to write a number. Assumes nothing.
use Rattle.std.specs.Prelude.{ℕ, ◌*◌, ◌/◌, ◌^◌, false, ℤ, Float}
use Rattle.std.specs.Float.{nan, inf, fin, binary64}
use Rattle.std.specs.Float.Ieee.{up, down, round, add, sub, mul, div, of_int, of_bits}

infixl 65 ◌⊕◌
infixl 65 ◌⊖◌
infixl 70 ◌⊗◌
infixl 70 ◌⊘◌
abbrev pub ◌⊕◌ : Float → Float → Float
◌⊕◌ x y = add binary64 x y

abbrev pub ◌⊖◌ : Float → Float → Float
◌⊖◌ x y = sub binary64 x y

abbrev pub ◌⊗◌ : Float → Float → Float
◌⊗◌ x y = mul binary64 x y

abbrev pub ◌⊘◌ : Float → Float → Float
◌⊘◌ x y = div binary64 x y

-- the f64 nearest to a / b
unfoldable pub near : ℕ → ℕ → Float
unfolding round
near a b = round binary64 false a b

-- the f64 nearest to n / 10 ^ k, as a literal has it: 5.75 is dec 575 2
abbrev pub dec : ℕ → ℕ → Float
dec n k = near n (10 ^ k)

-- the f64 with these bits
abbrev pub bits : ℕ → Float
bits b = of_bits binary64 b

-- a whole number as f64
abbrev pub whole : ℤ → Float
whole z = of_int binary64 z

-- the whole number at or below a value that is not negative
unfoldable pub floor_of : Float → ℕ
floor_of nan = 0
floor_of (inf s) = 0
floor_of (fin s m e) = m * up e / down e
