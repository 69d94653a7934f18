-- A table's row for a tag that it has not. Assumes nothing.
use Prim.Native.Nat.{ℕ}
use mathlib.Core.Path.{◌≡◌, refl}
use mathlib.Core.List.{List, [], ◌∷◌}
use borrow.Author.Tests.{ne_eqb}
use Rattle.replies.specs.declared.Reply.{Reply}
use Rattle.replies.specs.declared.Reply.TheVariants as R
use Rattle.replies.specs.Replies.{among}

-- that a tag is none of the rows', as a match's last arm tells it
abbrev pub Other : Type 0 → ℕ → List (ℕ × Reply) → Type 0
Other before tag [] = before
Other before tag (row ∷ rows) = Other (before × (tag ≡ row.0 → ⊥)) tag rows

first : (before : Type 0) (tag : ℕ) (rows : List (ℕ × Reply)) → Other before tag rows → before
first before tag [] h = h
first before tag (row ∷ rows) h = (first (before × (tag ≡ row.0 → ⊥)) tag rows h).0

other_than : (before : Type 0) (tag : ℕ) (rows : List (ℕ × Reply)) → Other before tag rows → R.Unformed ≡ among tag rows
unfolding among
other_than before tag [] h = refl
other_than before tag (row ∷ rows) h =
    let more : Type 0 = before × (tag ≡ row.0 → ⊥) in
    rw (ne_eqb tag row.0 (first more tag rows h).1) (other_than more tag rows h)

pub other : (tag : ℕ) (rows : List (ℕ × Reply)) → Other (Unit {0}) tag rows → R.Unformed ≡ among tag rows
other tag rows h = other_than (Unit {0}) tag rows h
