-- Laws of single bytes of UTF-8, and of what is still to come of a character. Assumes nothing.
use Prim.Native.Nat.{ℕ, ◌≤◌}
use mathlib.Core.Path.{◌≡◌, refl, sym}
use mathlib.Core.Bool.{Bool, true, false, cond, true≢false}
use mathlib.Core.List.{List, [], ◌∷◌}
use native.Mathlib.Omega.{arith}
use borrow.Author.Tests.{le-leb, lt-leb}
use lib.Dec.{eqb}
use Rattle.utf8.specs.Utf8.{follow, low, high, comes, utf8}

-- a byte below 128 is a character, one that follows begins none
pub follow_ascii : (b : ℕ) → b ≤ 127 → follow b ≡ 0
unfolding follow
follow_ascii b h = rw (le-leb b 127 h)

pub follow_tail : (b : ℕ) → 128 ≤ b → b ≤ 191 → follow b ≡ 4
unfolding follow
follow_tail b l h = let m = lt-leb b 127 l in let n = le-leb b 193 (omega arith) in rw (m, n)

-- what may follow lies in 128 to 191
pub low_tail : (b : ℕ) → 128 ≤ low b
unfolding low
low_tail b = go (eqb b 224) (eqb b 240)
  where
    go : (t u : Bool) → 128 ≤ cond t 160 (cond u 144 128)
    go true u = omega arith
    go false true = omega arith
    go false false = omega arith

pub high_tail : (b : ℕ) → high b ≤ 191
unfolding high
high_tail b = go (eqb b 237) (eqb b 244)
  where
    go : (t u : Bool) → cond t 159 (cond u 143 191) ≤ 191
    go true u = omega arith
    go false true = omega arith
    go false false = omega arith

-- where no byte is awaited, the bounds do not matter
pub comes_free : (least most : ℕ) (s : List ℕ) → comes 0 least most s ≡ utf8 s
comes_free least most [] = refl
comes_free least most (b ∷ s) = refl

-- a test that was passed
pub passed : (t : Bool) {a : Bool} → cond t a false ≡ true → (t ≡ true) × (a ≡ true)
passed true h = (refl, h)
passed false h = absurd (true≢false (sym h))
