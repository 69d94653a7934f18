-- What the inner functions promise each other. Assumes nothing.
use Rattle.std.specs.Prelude.{ℕ, ◌≡◌, ◌&&◌, List, ◌++◌, eqb, length, Err, Ok}
use Rattle.paper.specs.declared.Refusal.TheVariants.{BadTable, BadRules}
use Rattle.paper.specs.Answers.{Answer, given}
use Rattle.conversion.specs.Calendar.{Calendar}
use Rattle.conversion.specs.Flat.{accepted}
use Rattle.rules.specs.Rules.{accepted_rules}
use Rattle.rules.specs.Festivals.{Listed}
use Rattle.grid.specs.declared.Month.{Month}
use Rattle.grid.specs.Month.{Shown}
use Rattle.kept.specs.declared.Store.{Store}
use Rattle.kept.specs.declared.Kept.{Kept}
use Rattle.kept.specs.declared.After.{After}
use Rattle.kept.specs.State.{State, fresh_all, anew}
use Rattle.kept.specs.Operations.{with_rules, with_row}
use Rattle.kept.specs.Held.{years, store_of, Holds}

-- a record with other stored years
abbrev pub with_store : Kept → Store → Kept
with_store k s =
    record { table = k.table; rows = k.rows; row_len = k.row_len; rules = k.rules; rule_len = k.rule_len; store = s }

-- the stored years are those that the table and the rules give
abbrev pub Fresh : Calendar → List ℕ → Store → Type 0
Fresh c rules s = years s ≡ anew c rules (years s)

-- the store of these years, worked out
abbrev pub store_for : Calendar → List ℕ → List ℕ → Store
store_for c rules ys = store_of (fresh_all c rules ys)

-- ---- the state after an operation or a question

-- an operation that is refused leaves the state as it was
abbrev pub done : Kept → Answer Kept → After Unit
done k (Ok after) = record { answer = Ok tt; state = after }
done k (Err e) = record { answer = Err e; state = k }

-- an answer stores the years that it drew from; what is refused leaves the state as it was
abbrev pub asked : {A : Type 0} → Kept → Answer (A × Store) → After A
asked k (Ok drawn) = record { answer = Ok drawn.0; state = with_store k drawn.1 }
asked k (Err e) = record { answer = Err e; state = k }

-- a record holds the state that an operation makes, or both are the same refusal
abbrev pub HoldsAnswer : Answer Kept → Answer State → Type 0
HoldsAnswer (Ok k) (Ok σ) = Holds k σ
HoldsAnswer (Err e) (Err f) = e ≡ f
HoldsAnswer (Ok k) (Err f) = ⊥
HoldsAnswer (Err e) (Ok σ) = ⊥

-- the state that new rules make of one, and the one that a row more makes
unfoldable pub taking : State → List ℕ → Answer State
taking σ xs = given (accepted_rules xs) BadRules (Ok (with_rules σ xs))

unfoldable pub appending : State → List ℕ → Answer State
appending σ row = given (eqb (length row) 13 && accepted σ.table (σ.rows ++ row)) BadTable (Ok (with_row σ row))

-- ---- what a question draws

-- an answer beside a store
abbrev pub beside : {A : Type 0} → Store → Answer A → Answer (A × Store)
beside s (Ok x) = Ok (x, s)
beside s (Err k) = Err k

-- a day's list, with the store of the years ys that it drew from
pub record DrewDay (c : Calendar) (rules ys : List ℕ) (l : Listed) (r : Answer (ℕ × Store)) (buffer : List ℕ) : Type 0 where
  pub answer : r ≡ beside (store_for c rules ys) l.answer
  pub written : buffer ≡ l.buffer

-- a month, with the store of the years ys that it drew from
pub record DrewMonth (c : Calendar) (rules ys : List ℕ) (w : Shown) (r : Answer (Month × Store)) (cells festivals : List ℕ) : Type 0 where
  pub answer : r ≡ beside (store_for c rules ys) w.answer
  pub first : cells ≡ w.cells
  pub second : festivals ≡ w.festivals
