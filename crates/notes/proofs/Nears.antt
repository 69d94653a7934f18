-- The cases of a new moon's nearness to a boundary. Assumes nothing.
use Rattle.std.specs.Prelude.{None, Some}
use Rattle.std.specs.Bool.{then_some}
use Prim.Native.Nat.{ℕ}
use mathlib.Core.Path.{◌≡◌, refl}
use mathlib.Core.Bool.{Bool, true, false, cond}
use lib.Dec.{leb}
use lib.IntN.{pos}
use lib.Ieee.{Float}
use borrow.Author.Tests.{eq-eqb, ne_eqb}
use Rattle.paper.specs.Floats.{◌⊕◌, dec, whole}
use Rattle.gregorian.specs.Instants.{local_day}
use Rattle.notes.specs.Near.{minutes_to, nearness}

some_if : {A : Type 0} (b : Bool) (x : A) → then_some b x ≡ cond b (Some x) None
some_if true x = refl
some_if false x = refl

module _ (x : Float) (n d len : ℕ) where
  pub near_after : {m : ℕ} → d ≡ 1 → m ≡ minutes_to (whole (pos n)) (local_day x) → Some (true, m) ≡ nearness x n d len
  unfolding nearness
  near_after e f = rw (eq-eqb d 1 e, f)

  module _ (k : d ≡ 1 → ⊥) where
    pub near-neither : (d ≡ len → ⊥) → None ≡ nearness x n d len
    unfolding nearness
    near-neither e = rw (ne_eqb d 1 k, ne_eqb d len e)

    pub near-last : {m : ℕ} → d ≡ len → m ≡ minutes_to (local_day x) (whole (pos n) ⊕ dec 1 0) → then_some (leb m 720) (false, m) ≡ nearness x n d len
    unfolding nearness
    near-last {m} e f = rw (ne_eqb d 1 k, eq-eqb d len e, ← f) (some_if (leb m 720) (false, m))
