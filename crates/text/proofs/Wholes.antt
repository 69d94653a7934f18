-- The cases of a text that is a number, whole. Assumes nothing.
use Rattle.std.specs.Prelude.{None, Some}
use Prim.Native.Nat.{ℕ}
use mathlib.Core.Path.{◌≡◌}
use mathlib.Core.Bool.{true, false}
use mathlib.Core.List.{List}
use lib.ListN.{drop}
use Rattle.text.specs.Digits.{got, no, is_end, decimal, whole_number}

module _ (limit : ℕ) (s : List ℕ) (at : ℕ) (z : at ≡ 0) where
  pub whole_none : decimal limit (drop at s) ≡ no → None ≡ whole_number limit s
  unfolding whole_number
  whole_none e = let f : decimal limit s ≡ no = rw z at e in rw f

  module _ {n : ℕ} {t : List ℕ} (e : decimal limit (drop at s) ≡ got n t) where
    pub whole-more : is_end t ≡ false → None ≡ whole_number limit s
    unfolding whole_number
    whole-more q = let f : decimal limit s ≡ got n t = rw z at e in rw (f, q)

    pub whole-all : is_end t ≡ true → Some n ≡ whole_number limit s
    unfolding whole_number
    whole-all q = let f : decimal limit s ≡ got n t = rw z at e in rw (f, q)
