-- Texts written one after the other into a lent buffer. Assumes nothing.
use Prim.Native.Nat.{ℕ, ◌+◌, ◌-◌, ◌≤◌}
use mathlib.Core.Path.{◌≡◌, refl, sym, ap, ◌∙◌}
use mathlib.Core.List.{List, [], ◌++◌}
use mathlib.Core.Logic.{⊎_elim}
use native.Mathlib.Omega.{arith}
use lib.ListN.{length, take, length-append}
use lib.Seq.{sets, length-sets}
use Rattle.paper.proofs.Tests.{split}
use Rattle.paper.proofs.Stores.{sets_append, sets_past, front_of}
use Rattle.text.specs.Written.{Wrote}

-- nothing is written
pub wrote_none : (l : List ℕ) (i : ℕ) → Wrote l i [] l i
wrote_none l i = record { stored = refl; end = omega arith }

-- one text after the other is one text
pub then : {l : List ℕ} {i : ℕ} {vs m : List ℕ} {j : ℕ} {ws n : List ℕ} {k : ℕ} → Wrote l i vs m j → Wrote m j ws n k → Wrote l i (vs ++ ws) n k
then {l} {i} {vs} {m} {j} {ws} {n} {k} a b =
    let e : length m ≡ length l = ap length a.stored ∙ length-sets l i vs in
    let f : length m ≡ length (sets l i vs) = ap length a.stored in
    let p = a.end in
    let q = b.end in
    record {
      stored = b.stored ∙ ap (λ (x : List ℕ). sets x j ws) a.stored
          ∙ ⊎_elim (λ h. let g : j ≡ i + length vs = omega arith in ap (λ (x : ℕ). sets (sets l i vs) x ws) g)
          (λ h. sets_past ws (sets l i vs) j (omega arith) ∙ sym (sets_past ws (sets l i vs) (i + length vs) (omega arith)))
          (split (length vs) (length l - i))
          ∙ sym (sets_append vs ws l i);
      end = omega (arith, length-append vs ws);
    }

-- a text that has room from the front on: where it ends, and that it stands there
pub wrote_front : {l vs m : List ℕ} {j : ℕ} → Wrote l 0 vs m j → length vs ≤ length l → (j ≡ length vs) × (take j m ≡ vs)
wrote_front {l} {vs} {m} {j} a h =
    let p = a.end in
    let e : length vs ≡ j = omega arith in
    (sym e, front_of vs l m j a.stored e (omega arith))
