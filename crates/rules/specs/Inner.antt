-- A day's pairs, as loops over the rules store them in a buffer, and what is kept there. Assumes nothing.
use Rattle.std.specs.Prelude.{ℕ, ◌+◌, ◌*◌, Bool, true, false, cond, List, [], ◌∷◌, eqb, Option, Some, None}
use Rattle.std.proofs.lemmas.List.Edits.{sets}
use Rattle.rules.specs.declared.lists.Kept.{Kept}
use Rattle.rules.specs.Festivals.{Pair}

abbrev pub State : Type 0
State = List ℕ × Kept

-- the name is that of the pair kept last
abbrev pub is_name : Option ℕ → ℕ → Bool
is_name (Some last) name = eqb last name
is_name None name = false

abbrev pub repeats : Kept → ℕ → Bool
repeats s name = is_name s.last name

-- a pair is kept where `on` says so and its name is not the last one
unfoldable pub store_if : Bool → State → ℕ → ℕ → State
store_if on σ name holiday =
    cond on
    (cond (repeats σ.1 name) σ
    (sets σ.0 (σ.1.n * 2) (name ∷ holiday ∷ []), record { n = σ.1.n + 1; last = Some name }))
    σ

unfoldable pub store_pairs : State → List Pair → State
store_pairs σ [] = σ
store_pairs σ (e ∷ es) = store_pairs (store_if true σ e.0 e.1) es
