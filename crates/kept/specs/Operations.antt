-- The operations on a kept state, each with its refusals in their order. Assumes nothing.
use Rattle.std.specs.Prelude.{ℕ, Bool, true, false, cond, ◌&&◌, List, [], ◌∷◌, ◌++◌, eqb, length, Err, Ok}
use Rattle.paper.specs.declared.Refusal.TheVariants.{BadTable, BadRules, NoRow}
use Rattle.paper.specs.Answers.{Answer, given}
use Rattle.gregorian.specs.declared.Date.{Date}
use Rattle.conversion.specs.declared.Table.{Table}
use Rattle.conversion.specs.declared.BsDate.{BsDate}
use Rattle.conversion.specs.Calendar.{Calendar, from_ad}
use Rattle.conversion.specs.Flat.{accepted, flat}
use Rattle.rules.specs.Rules.{accepted_rules}
use Rattle.rules.specs.Festivals.{Listed}
use Rattle.festivals.specs.Answers.{on_bs, on_ad}
use Rattle.grid.specs.Month.{Shown}
use Rattle.grid.specs.Kathmandu.{month_shown}
use Rattle.kept.specs.State.{State, calendar, fresh_all, anew, drawn, startable}

-- ---- start: refusal 1, and then there is no state

abbrev pub blank : Table → State
blank t = record { table = t; rows = []; rules = []; stored = [] }

unfoldable pub start : Table → Answer State
start t = given (startable t) BadTable (Ok (blank t))

-- ---- take, append, forget

-- what is answered, and the state after it
pub record Outcome : Type 0 where
  pub answer : Answer Unit
  pub state : State

-- a refused operation leaves the state
abbrev pub outcome : State → Answer State → Outcome
outcome σ (Ok τ) = record { answer = Ok tt; state = τ }
outcome σ (Err k) = record { answer = Err k; state = σ }

-- other rules, and no stored year: refusal 2
abbrev pub with_rules : State → List ℕ → State
with_rules σ xs = record { table = σ.table; rows = σ.rows; rules = xs; stored = [] }

unfoldable pub take_rules : State → List ℕ → Outcome
take_rules σ xs = outcome σ (given (accepted_rules xs) BadRules (Ok (with_rules σ xs)))

-- one year row more, and the stored years worked out with it: refusal 1
abbrev pub with_row : State → List ℕ → State
with_row σ row =
    record {
      table = σ.table;
      rows = σ.rows ++ row;
      rules = σ.rules;
      stored = anew (flat σ.table (σ.rows ++ row)) σ.rules σ.stored;
    }

unfoldable pub append_row : State → List ℕ → Outcome
append_row σ row = outcome σ (given (eqb (length row) 13 && accepted σ.table (σ.rows ++ row)) BadTable (Ok (with_row σ row)))

-- other stored years: these, worked out from the table and the rules
abbrev pub with_years : State → List ℕ → State
with_years σ ys = record { table = σ.table; rows = σ.rows; rules = σ.rules; stored = fresh_all (calendar σ) σ.rules ys }

abbrev pub forgotten : State → State
forgotten σ = with_years σ []

-- ---- ask a day

-- what is answered with the lent buffer as it then stands, and the state after it
pub record Reply : Type 0 where
  pub listed : Listed
  pub state : State

-- an answered question leaves stored exactly the years ys that it drew from; a refused one leaves the state
abbrev pub after : {A : Type 0} → State → List ℕ → Answer A → State
after σ ys (Ok x) = with_years σ ys
after σ ys (Err k) = σ

abbrev pub replied : State → Listed → List ℕ → Reply
replied σ l ys = record { listed = l; state = after σ ys l.answer }

abbrev pub empty : List ℕ → Bool
empty [] = true
empty (x ∷ xs) = false

-- a question before a row is held: refusal 13, before every other
unfoldable pub row_first : List ℕ → Listed → List ℕ → Listed
row_first rows l out = cond (empty rows) (record { answer = Err NoRow; buffer = out }) l

-- a day's list by BS date, over the table and the rules now held: refusals 13, 4, 5, 6, 9
unfoldable pub ask_bs : State → ℕ → ℕ → ℕ → List ℕ → Reply
ask_bs σ y m d out = replied σ (row_first σ.rows (on_bs σ.table σ.rows σ.rules y m d out) out) (drawn (calendar σ) y m)

-- the years that the day of a BS date draws from
abbrev pub drawn_on : Calendar → Answer BsDate → List ℕ
drawn_on c (Ok t) = drawn c t.year t.month
drawn_on c (Err k) = []

-- by Gregorian date: refusals 13, 3, 7, 9
unfoldable pub ask_ad : State → ℕ → ℕ → ℕ → List ℕ → Reply
ask_ad σ y m d out =
    replied σ (row_first σ.rows (on_ad σ.table σ.rows σ.rules y m d out) out) (drawn_on (calendar σ) (from_ad (calendar σ) y m d))

-- ---- ask a month

-- what is answered with the two lent buffers as they then stand, and the state after it
pub record MonthReply : Type 0 where
  pub shown : Shown
  pub state : State

abbrev pub replied_month : State → Shown → List ℕ → MonthReply
replied_month σ w ys = record { shown = w; state = after σ ys w.answer }

unfoldable pub row_first_month : List ℕ → Shown → List ℕ → List ℕ → Shown
row_first_month rows w cells festivals = cond (empty rows) (record { answer = Err NoRow; cells = cells; festivals = festivals }) w

-- a month, over the table and the rules now held: refusals 13, 3 (today), 4, 5, 9
unfoldable pub ask_month : State → Date → ℕ → ℕ → List ℕ → List ℕ → MonthReply
ask_month σ today y m cells festivals =
    replied_month σ (row_first_month σ.rows (month_shown σ.table σ.rows σ.rules today y m cells festivals) cells festivals)
    (drawn (calendar σ) y m)

-- ---- any sequence of operations

pub data Operation : Type 0 where
  take : List ℕ → Operation
  append : List ℕ → Operation
  forget : Operation
  asked_bs : ℕ → ℕ → ℕ → List ℕ → Operation
  asked_ad : ℕ → ℕ → ℕ → List ℕ → Operation
  asked_month : Date → ℕ → ℕ → List ℕ → List ℕ → Operation

unfoldable pub next : State → Operation → State
next σ (take xs) = (take_rules σ xs).state
next σ (append row) = (append_row σ row).state
next σ forget = forgotten σ
next σ (asked_bs y m d out) = (ask_bs σ y m d out).state
next σ (asked_ad y m d out) = (ask_ad σ y m d out).state
next σ (asked_month today y m cells festivals) = (ask_month σ today y m cells festivals).state

unfoldable pub run : State → List Operation → State
run σ [] = σ
run σ (o ∷ os) = run (next σ o) os
