-- What is written into a lent buffer: as much of a text as has room from a place on. Assumes nothing.
use Rattle.std.specs.Prelude.{ℕ, ◌+◌, ◌-◌, min, ◌≡◌, List, length}
use Rattle.std.proofs.lemmas.List.Edits.{sets}

-- `after` is `out` with the text stored from `at` on, and `next` is the place after it. What lies past the end of `out` is not stored.
pub record Wrote (out : List ℕ) (at : ℕ) (text : List ℕ) (after : List ℕ) (next : ℕ) : Type 0 where
  pub stored : after ≡ sets out at text
  pub end : next ≡ at + min (length text) (length out - at)
