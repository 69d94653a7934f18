-- The calls over a kept state in an array of the caller's: what they answer, and what they leave in the lent places and buffers and in the array.
-- Assumes nothing.
use Rattle.std.specs.Prelude.{ℕ, ◌<◌, ◌≡◌, List, [], ◌∷◌, leb, length, Err, Ok}
use Rattle.paper.specs.Answers.{Answer, given, then}
use Rattle.paper.specs.Refusals.{number}
use Rattle.paper.specs.declared.Refusal.TheVariants.{NoRoom}
use Rattle.conversion.specs.declared.Table.{Table}
use Rattle.kept.specs.declared.Kept.{Kept}
use Rattle.kept.specs.State.{State}
use Rattle.kept.specs.Operations.{start, Outcome, Reply, MonthReply}
use Rattle.shelf.specs.Numbers.{laid, Made}
use Rattle.shelf.specs.Inner.{placed}
use Rattle.panel.specs.Boundary.{code, gives_list, gives_list_ad, gives_month, MonthPlaces}

-- what a call promises that is lent the array a: `before` and `after` are all that it is lent to write to, and n is its number
pub record Keeping {B : Type 0} (a : List ℕ) (n : ℕ) (before after : B) (on : State → ℕ × B) : Type 0 where
  -- an array that is too short gets 9, and nothing changes
  pub short : length a < 4488 → ◌≡◌ {A = ℕ × B} (n, after) (number NoRoom, before)
  -- on an array that holds a state
  pub made : (σ : State) → Made a σ → ◌≡◌ {A = ℕ × B} (n, after) (on σ)

-- the array after an operation: the state after it where it answers; a refusal leaves every number
abbrev pub written : {A : Type 0} → List ℕ → State → Answer A → List ℕ
written a σ (Ok x) = laid a σ
written a σ (Err k) = a

-- a start, on any array: the refusal of the table, and then 9 where the array is too short
unfoldable pub start_in : Table → List ℕ → Answer State
start_in t a = then (start t) (λ σ. given (leb 4488 (length a)) NoRoom (Ok σ))

-- other rules, or one row more: the number, and the array
abbrev pub kept_done : List ℕ → Outcome → ℕ × List ℕ
kept_done a w = (code w.answer, written a w.state w.answer)

-- which years are stored: how many, the first and the last; nothing is refused
abbrev pub kept_years : List ℕ → ℕ × (ℕ × ℕ × ℕ)
kept_years [] = (0, (0, 0, 0))
kept_years (y ∷ []) = (0, (1, y, y))
kept_years (y ∷ z ∷ ys) = (0, (2, y, z))

-- a question: the number; what it leaves in the lent places, and in the lent buffers and the array
abbrev pub on_array : {A P X : Type 0} → List ℕ → State → Answer A → (ℕ × P) × X → ℕ × (P × (X × List ℕ))
on_array a σ x g = (g.0.0, (g.0.1, (g.1, written a σ x)))

-- a day's list
abbrev pub kept_list : List ℕ → Reply → ℕ → ℕ × (ℕ × (List ℕ × List ℕ))
kept_list a w old = on_array a w.state w.listed.answer (gives_list w.listed old)

-- a day's list asked by Gregorian date
abbrev pub kept_list_ad : List ℕ → Reply → ℕ × (ℕ × ℕ) → ℕ × ((ℕ × (ℕ × ℕ)) × (List ℕ × List ℕ))
kept_list_ad a w old = on_array a w.state w.listed.answer (gives_list_ad w.listed old)

-- a month
abbrev pub kept_month : List ℕ → MonthReply → MonthPlaces → ℕ × (MonthPlaces × ((List ℕ × List ℕ) × List ℕ))
kept_month a w old = on_array a w.state w.shown.answer (gives_month w.shown old)

-- ---- what the inner functions promise each other

-- the array with the record of the state after an answer; a refusal leaves it
abbrev pub placed_by : {A : Type 0} → Answer A → Kept → List ℕ → List ℕ
placed_by (Ok x) k a = placed k a
placed_by (Err j) k a = a
