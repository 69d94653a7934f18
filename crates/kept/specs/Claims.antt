-- What is claimed of a kept state, after any sequence of operations. Assumes nothing.
use Rattle.std.specs.Prelude.{ℕ, ◌≡◌, List, [], Err, Ok}
use Rattle.paper.specs.declared.Refusal.{Refusal}
use Rattle.paper.specs.declared.Refusal.TheVariants.{NoRow}
use Rattle.paper.specs.Answers.{Answer}
use Rattle.gregorian.specs.declared.Date.{Date}
use Rattle.conversion.specs.declared.BsDate.{BsDate}
use Rattle.conversion.specs.Calendar.{to_ad, from_ad}
use Rattle.festivals.specs.Answers.{on_bs, on_ad}
use Rattle.grid.specs.declared.Month.{Month}
use Rattle.grid.specs.Kathmandu.{month_shown}
use Rattle.kept.specs.State.{State, calendar, year_numbers, drawn, Good}
use Rattle.kept.specs.Operations.{take_rules, append_row, forgotten, ask_bs, ask_ad, ask_month}
use Rattle.kept.specs.Converting.{ask_to_ad, ask_from_ad}

-- a refusal leaves the state
abbrev pub Leaves : {A : Type 0} → State → Answer A → State → Type 0
Leaves σ a τ = (k : Refusal) → a ≡ Err k → τ ≡ σ

pub record Keeps (σ : State) : Type 0 where
  -- each stored year equals the year worked out afresh from the table and the rules now held
  pub good : Good σ
  -- where a row is held a question is answered, with every number of each lent buffer, as the call over this table and these rules answers it
  pub list : (σ.rows ≡ [] → ⊥) → (y m d : ℕ) (out : List ℕ) → (ask_bs σ y m d out).listed ≡ on_bs σ.table σ.rows σ.rules y m d out
  pub list_ad : (σ.rows ≡ [] → ⊥) → (y m d : ℕ) (out : List ℕ) → (ask_ad σ y m d out).listed ≡ on_ad σ.table σ.rows σ.rules y m d out
  pub month : (σ.rows ≡ [] → ⊥) → (today : Date) (y m : ℕ) (cells festivals : List ℕ)
      → (ask_month σ today y m cells festivals).shown ≡ month_shown σ.table σ.rows σ.rules today y m cells festivals
  pub to_ad_law : (σ.rows ≡ [] → ⊥) → (y m d : ℕ) → ask_to_ad σ y m d ≡ to_ad (calendar σ) y m d
  pub to_bs : (σ.rows ≡ [] → ⊥) → (y m d : ℕ) → ask_from_ad σ y m d ≡ from_ad (calendar σ) y m d
  -- before a row is held each question is refused with 13, and no lent number changes
  pub no_row : σ.rows ≡ [] → (y m d : ℕ) (out : List ℕ) → (ask_bs σ y m d out).listed ≡ record { answer = Err NoRow; buffer = out }
  pub no_row_ad : σ.rows ≡ [] → (y m d : ℕ) (out : List ℕ) → (ask_ad σ y m d out).listed ≡ record { answer = Err NoRow; buffer = out }
  pub no_row_month : σ.rows ≡ [] → (today : Date) (y m : ℕ) (cells festivals : List ℕ)
      → (ask_month σ today y m cells festivals).shown ≡ record { answer = Err NoRow; cells = cells; festivals = festivals }
  pub no_row_to_ad : σ.rows ≡ [] → (y m d : ℕ) → ask_to_ad σ y m d ≡ Err NoRow
  pub no_row_to_bs : σ.rows ≡ [] → (y m d : ℕ) → ask_from_ad σ y m d ≡ Err NoRow
  -- an answered question leaves stored exactly the table years that its day or its month draws from
  pub list_stores : (y m d : ℕ) (out : List ℕ) (n : ℕ) → (ask_bs σ y m d out).listed.answer ≡ Ok n
      → year_numbers (ask_bs σ y m d out).state.stored ≡ drawn (calendar σ) y m
  pub list_ad_stores : (y m d : ℕ) (out : List ℕ) (n : ℕ) → (ask_ad σ y m d out).listed.answer ≡ Ok n → (t : BsDate) × (
      (from_ad (calendar σ) y m d ≡ Ok t) × (year_numbers (ask_ad σ y m d out).state.stored ≡ drawn (calendar σ) t.year t.month))
  pub month_stores : (today : Date) (y m : ℕ) (cells festivals : List ℕ) (x : Month) → (ask_month σ today y m cells festivals).shown.answer ≡ Ok x
      → year_numbers (ask_month σ today y m cells festivals).state.stored ≡ drawn (calendar σ) y m
  -- appended rows keep the years that are stored; other rules and `forget` leave none
  pub row_keeps : (row : List ℕ) → year_numbers (append_row σ row).state.stored ≡ year_numbers σ.stored
  pub rules_empty : (xs : List ℕ) → (take_rules σ xs).answer ≡ Ok tt → (take_rules σ xs).state.stored ≡ []
  pub forget_empties : (forgotten σ).stored ≡ []
  -- a refused operation leaves the state
  pub rules_refused : (xs : List ℕ) → Leaves σ (take_rules σ xs).answer (take_rules σ xs).state
  pub row_refused : (row : List ℕ) → Leaves σ (append_row σ row).answer (append_row σ row).state
  pub list_refused : (y m d : ℕ) (out : List ℕ) → Leaves σ (ask_bs σ y m d out).listed.answer (ask_bs σ y m d out).state
  pub list_ad_refused : (y m d : ℕ) (out : List ℕ) → Leaves σ (ask_ad σ y m d out).listed.answer (ask_ad σ y m d out).state
  pub month_refused : (today : Date) (y m : ℕ) (cells festivals : List ℕ)
      → Leaves σ (ask_month σ today y m cells festivals).shown.answer (ask_month σ today y m cells festivals).state
