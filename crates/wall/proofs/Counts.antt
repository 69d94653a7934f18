-- The turns of the loop that counts festivals. Assumes nothing.
use Prim.Native.Nat.{ℕ, ◌+◌}
use mathlib.Core.Path.{◌≡◌, refl}
use mathlib.Core.List.{List}
use native.Mathlib.Numerals.{add-one}
use Rattle.paper.specs.Sums.{sum}
use Rattle.wall.specs.Cells.{num}
use Rattle.wall.specs.Lists.{before}

pub before_none : (cells : List ℕ) → 0 ≡ before cells 0
unfolding before sum
before_none cells = refl

pub before_turn : (cells : List ℕ) (k : ℕ) → before cells k + num cells k 11 ≡ before cells (k + 1)
unfolding before sum
before_turn cells k = rw (add-one k)
