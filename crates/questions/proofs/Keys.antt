-- A tag that is one of an arm's, or none of them. Assumes nothing.
use Prim.Native.Nat.{ℕ}
use mathlib.Core.Path.{◌≡◌, refl, sym, ap, ◌∙◌}
use mathlib.Core.Bool.{false}
use mathlib.Core.List.{List, [], ◌∷◌}
use mathlib.Core.Logic.{inl, inr}
use borrow.Author.Tests.{ne_eqb}
use types.Run.{OneOf}
use Rattle.questions.specs.Questions.{one_of}

-- what is so at each of the keys
abbrev pub Each : {A : Type 0} → (ℕ → A) → A → List ℕ → Type 0
Each f a [] = Unit
Each f a (k ∷ ks) = (a ≡ f k) × Each f a ks

-- is so at a tag that is one of them
pub by_key : {A : Type 0} (f : ℕ → A) (a : A) (ks : List ℕ) (tag : ℕ) → OneOf ks tag → Each f a ks → a ≡ f tag
by_key f a [] tag o e = absurd o
by_key f a (k ∷ []) tag o e = e.0 ∙ ap f (sym o)
by_key f a (k ∷ j ∷ ks) tag (inl o) e = e.0 ∙ ap f (sym o)
by_key f a (k ∷ j ∷ ks) tag (inr o) e = by_key f a (j ∷ ks) tag o e.1

-- a tag that is none of them
pub no_key : (ks : List ℕ) (tag : ℕ) → (OneOf ks tag → ⊥) → one_of ks tag ≡ false
unfolding one_of
no_key [] tag h = refl
no_key (k ∷ []) tag h = rw (ne_eqb tag k h)
no_key (k ∷ j ∷ ks) tag h = rw (ne_eqb tag k (λ e. h (inl e))) (no_key (j ∷ ks) tag (λ o. h (inr o)))
