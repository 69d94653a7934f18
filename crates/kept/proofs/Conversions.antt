-- The conversions over a kept state, case by case. Assumes nothing.
use Rattle.std.specs.Prelude.{Err}
use Prim.Native.Nat.{ℕ}
use mathlib.Core.Path.{◌≡◌, ap, ◌∙◌, subst⁻¹}
use mathlib.Core.Bool.{true}
use mathlib.Core.List.{List}
use mathlib.Core.Logic.{⊎_elim}
use lib.ListN.{length}
use Rattle.paper.specs.declared.Refusal.TheVariants.{NoRow}
use Rattle.paper.specs.Answers.{Answer}
use Rattle.conversion.specs.declared.Table.{Table}
use Rattle.conversion.specs.Calendar.{Calendar}
use Rattle.conversion.specs.Flat.{accepted, flat}
use Rattle.kept.specs.declared.Kept.{Kept}
use Rattle.kept.specs.State.{calendar}
use Rattle.kept.specs.Held.{held, Ready}
use Rattle.kept.specs.Converting.{TableHeld, if_row}
use Rattle.kept.proofs.Replies.{is_empty, not_empty}

module _ {A : Type 0} (rows : List ℕ) (a : Answer A) where
  pub if_none : length rows ≡ 0 → if_row rows a ≡ Err NoRow
  unfolding if_row
  if_none h = rw (is_empty rows h)

  pub if_some : (length rows ≡ 0 → ⊥) → if_row rows a ≡ a
  unfolding if_row
  if_some h = rw (not_empty rows h)

-- a table that is held and has rows is accepted
pub some_accepted : (t : Table) (rows : List ℕ) → (length rows ≡ 0 → ⊥) → TableHeld t rows → accepted t rows ≡ true
some_accepted t rows h w = ⊎_elim (λ e. absurd (h (ap length e))) (λ e. e) w

-- a question over what is lent is one over what is held
pub asked_held : {A : Type 0} (k : Kept) → Ready k → (rows : List ℕ) → rows ≡ (held k).rows → (f : Calendar → Answer A) (a : Answer A)
    → (TableHeld k.table rows → a ≡ if_row rows (f (flat k.table rows))) → a ≡ if_row (held k).rows (f (calendar (held k)))
asked_held k w rows p f a h =
    h (subst⁻¹ (TableHeld k.table) p w.good.table) ∙ ap (λ (r : List ℕ). if_row r (f (flat k.table r))) p
