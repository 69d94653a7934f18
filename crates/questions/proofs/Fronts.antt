-- The first elements of a list, as many as it has. Assumes nothing.
use Prim.Native.Nat.{ℕ, min}
use mathlib.Core.Path.{◌≡◌, sym, ◌∙◌}
use mathlib.Core.Logic.{⊎_elim}
use native.Mathlib.Omega.{arith}
use mathlib.Core.List.{List}
use lib.ListN.{length, take}
use lib.Seq.{take_all, take-length}
use Rattle.paper.proofs.Tests.{split}

-- how many of a list's first n elements there are
pub take_front : {A : Type 0} (n r : ℕ) (l : List A) → r ≡ min n (length l) → take r l ≡ take n l
take_front {A} n r l e =
    ⊎_elim (λ h. let q : r ≡ n = omega arith in rw q) (λ h. let q : r ≡ length l = omega arith in rw q (take-length l ∙ sym (take_all n l (omega arith))))
    (split n (length l))
