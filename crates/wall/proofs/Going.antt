-- A writer's loop: what is still to be written, and the whole. Assumes nothing.
use Prim.Native.Nat.{ℕ, suc, ◌+◌}
use mathlib.Core.Path.{◌≡◌, refl}
use mathlib.Core.List.{List, [], ◌++◌, append_assoc}
use Rattle.text.specs.Written.{Wrote}
use Rattle.text.proofs.Writes.{then, wrote_none}
use Rattle.wall.specs.Columns.{repeated}

-- whoever writes the rest from here on has written the whole
abbrev pub Going : List ℕ → ℕ → List ℕ → List ℕ → ℕ → List ℕ → Type 0
Going out₀ at whole out next rest = (after : List ℕ) (end : ℕ) → Wrote out next rest after end → Wrote out₀ at whole after end

module _ {out₀ : List ℕ} {at : ℕ} {whole out : List ℕ} {next : ℕ} {rest : List ℕ} (g : Going out₀ at whole out next rest) where
  -- nothing is left
  pub stopped : rest ≡ [] → Wrote out₀ at whole out next
  stopped e = g out next (rw e (wrote_none out next))

  -- a piece of the rest is written
  pub written : {piece out' : List ℕ} {next' : ℕ} → Wrote out next piece out' next' → (rest' : List ℕ) → rest ≡ piece ++ rest' → Going out₀ at whole out' next' rest'
  written w rest' e = λ after end v. g after end (rw e (then w v))

-- what is repeated, one more turn and none
pub repeated_turn : (f : ℕ → List ℕ) (step i left rest : ℕ) → left ≡ suc rest → repeated f step i left ≡ f i ++ repeated f step (i + step) rest
unfolding repeated
repeated_turn f step i left rest e = rw e

pub repeated_end : (f : ℕ → List ℕ) (step i left : ℕ) → left ≡ 0 → repeated f step i left ≡ []
unfolding repeated
repeated_end f step i left e = rw e

pub repeated_then : (f : ℕ → List ℕ) (step i left rest : ℕ) (tail : List ℕ) → left ≡ suc rest → repeated f step i left ++ tail ≡ f i ++ (repeated f step (i + step) rest ++ tail)
repeated_then f step i left rest tail e = rw (repeated_turn f step i left rest e, append_assoc)
