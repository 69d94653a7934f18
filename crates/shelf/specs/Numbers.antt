-- The kept state as 4,488 numbers of sixteen bits, as a caller keeps it. Assumes nothing.
use Rattle.std.specs.Prelude.{ℕ, ◌/◌, ◌%◌, ◌≤◌, ◌≡◌, List, [], ◌∷◌, ◌++◌, length, drop}
use Rattle.kept.specs.declared.Kept.{Kept}
use Rattle.kept.specs.State.{State, Good}
use Rattle.kept.specs.Held.{record_of}

-- days, each as two numbers: its low sixteen bits, its high ones
unfoldable pub halves : List ℕ → List ℕ
halves [] = []
halves (d ∷ ds) = d % 65536 ∷ d / 65536 ∷ halves ds

-- the eight numbers at the front: the table's first year and first day, both lengths, how many years are stored, and the last of them
abbrev pub head_of : Kept → List ℕ
head_of k =
    k.table.first_year
    ∷ k.table.year
    ∷ k.table.month
    ∷ k.table.day
    ∷ k.row_len
    ∷ k.rule_len
    ∷ k.store.count
    ∷ k.store.year
    ∷ []

-- the rows stand at 8, the rules at 1,672, the days of the year before at 4,232 and those of the year at 4,360
unfoldable pub numbers_of : Kept → List ℕ
numbers_of k = head_of k ++ (k.rows ++ (k.rules ++ (halves k.store.years.before.days ++ halves k.store.years.this.days)))

-- a list with a state at its front; what stands behind the first 4,488 numbers stays
abbrev pub laid : List ℕ → State → List ℕ
laid a σ = numbers_of (record_of σ) ++ drop 4488 a

-- a list that a call made: it holds a good state, which fixes its first 4,488 numbers
pub record Made (a : List ℕ) (σ : State) : Type 0 where
  pub good : Good σ
  pub room : 4488 ≤ length a
  pub is : a ≡ laid a σ
