-- What the inner functions promise each other. Assumes nothing.
use Rattle.std.specs.Prelude.{ℕ, ◌≡◌, List, [], Err, Ok}
use Rattle.paper.specs.declared.Refusal.{Refusal}
use Rattle.paper.specs.Answers.{Answer}
use Rattle.gregorian.specs.declared.Date.{Date}
use Rattle.text.specs.Written.{Wrote}
use Rattle.conversion.specs.declared.Table.{Table}
use Rattle.kept.specs.declared.After.{After}
use Rattle.kept.specs.State.{State}
use Rattle.kept.specs.Operations.{forgotten}
use Rattle.kept.specs.Held.{held, Ready}
use Rattle.patro.specs.declared.pages.Part.TheVariants.{Whole}
use Rattle.patro.specs.Pages.{page_bs}
use Rattle.patro.specs.Years.{spaced, year_page}

-- a page drawn in a buffer from a place on, as far as the buffer goes, or its refusal; what a refusal leaves in the buffer is open
pub record Draws (a : Answer (List ℕ)) (out : List ℕ) (at : ℕ) (after : List ℕ) (r : Answer ℕ) : Type 0 where
  pub page : (n : ℕ) → r ≡ Ok n → (text : List ℕ) × ((a ≡ Ok text) × Wrote out at text after n)
  pub refusal : (why : Refusal) → r ≡ Err why → a ≡ Err why

-- ---- over a kept state

-- the state of a table and rules, before it is asked
abbrev pub state_of : Table → List ℕ → List ℕ → State
state_of t rows rules = record { table = t; rows = rows; rules = rules; stored = [] }

-- pages over the table and the rules that a state holds
module _ (σ : State) (names : List ℕ) (today : Date) (y : ℕ) where
  abbrev pub month_of : ℕ → Answer (List ℕ)
  month_of m = page_bs σ.table σ.rows σ.rules names today y m Whole

  abbrev pub spaced_of : ℕ → Answer (List ℕ)
  spaced_of m = spaced σ.table σ.rows σ.rules names today y m

  abbrev pub year_of : Answer (List ℕ)
  year_of = year_page σ.table σ.rows σ.rules names today y

-- a page drawn over a state, which then holds the same table and rules
pub record DrawsKept (σ : State) (page : Answer (List ℕ)) (out : List ℕ) (at : ℕ) (after : List ℕ) (r : After ℕ) : Type 0 where
  pub laid : Draws page out at after r.answer
  pub ready : Ready r.state
  pub same : forgotten (held r.state) ≡ forgotten σ
