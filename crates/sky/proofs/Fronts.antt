-- A list whose front was written over. Assumes nothing.
use mathlib.Core.Path.{◌≡◌, sym, ap, ◌∙◌}
use mathlib.Core.List.{List, ◌++◌}
use Prim.Native.Nat.{ℕ, ◌≤◌}
use native.Mathlib.Omega.{arith}
use lib.ListN.{length, take, drop, length-append, length-drop}
use lib.Seq.{take_at}

-- a list whose front was written over keeps its length, and its front is what was written
module _ {A : Type 0} (p d : List A) {b : List A} {c : ℕ} (e : b ≡ p ++ drop c d) (n : c ≡ length p) where
  pub over_length : c ≤ length d → length b ≡ length d
  over_length h = ap length e ∙ simp (length-append, length-drop) (omega arith)

  pub over_front : take c b ≡ p
  over_front = ap (take c) e ∙ take_at p (drop c d) c (sym n)
