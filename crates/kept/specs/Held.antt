-- How the code's records are read: the state that a record holds, and the one record that holds a state. Assumes nothing.
use Rattle.std.specs.Prelude.{ℕ, ◌-◌, ◌≡◌, cond, List, [], ◌∷◌, ◌++◌, eqb, length, take, replicate, Ok}
use Rattle.paper.specs.Answers.{then}
use Rattle.conversion.specs.declared.Table.{Table}
use Rattle.rules.specs.declared.lists.Resolved.{Resolved}
use Rattle.grid.specs.declared.Month.{Month}
use Rattle.kept.specs.declared.Store.{Store}
use Rattle.kept.specs.declared.Kept.{Kept}
use Rattle.kept.specs.declared.After.{After}
use Rattle.kept.specs.declared.StoredYears.{StoredYears}
use Rattle.kept.specs.declared.StoredYears.TheVariants as ST
use Rattle.kept.specs.State.{Year, year_of, State, Good}
use Rattle.kept.specs.Operations.{blank, start, Outcome, Reply, MonthReply}

-- ---- the state that a record holds

-- the stored years, rising
unfoldable pub years : Store → List Year
years s =
    cond (eqb s.count 0) []
    (cond (eqb s.count 1) (year_of s.year s.years.this.days ∷ [])
    (year_of (s.year - 1) s.years.before.days ∷ year_of s.year s.years.this.days ∷ []))

-- lists are cut at their lengths
abbrev pub held : Kept → State
held k =
    record { table = k.table; rows = take k.row_len k.rows; rules = take k.rule_len k.rules; stored = years k.store }

-- ---- the record that holds a state

-- a list, and 0 behind it, so that there are n numbers
abbrev pub padded : ℕ → List ℕ → List ℕ
padded n l = l ++ replicate (n - length l) 0

abbrev pub entries : List ℕ → Resolved
entries days = record { days = days }

-- a store of one year has zeros before it, an empty one zeros alone
unfoldable pub store_of : List Year → Store
store_of [] = record { count = 0; year = 0; years = record { before = entries (replicate 64 0); this = entries (replicate 64 0) } }
store_of (k ∷ []) = record { count = 1; year = k.year; years = record { before = entries (replicate 64 0); this = entries k.days } }
store_of (k ∷ l ∷ ks) = record { count = 2; year = l.year; years = record { before = entries k.days; this = entries l.days } }

abbrev pub record_of : State → Kept
record_of σ =
    record {
      table = σ.table;
      rows = padded 1664 σ.rows;
      row_len = length σ.rows;
      rules = padded 2560 σ.rules;
      rule_len = length σ.rules;
      store = store_of σ.stored;
    }

-- what every call asks of a record before it promises anything, and leaves: it holds a good state, which fixes each of its numbers
pub record Ready (k : Kept) : Type 0 where
  pub good : Good (held k)
  pub is : k ≡ record_of (held k)

-- ---- what the calls promise

-- a record holds a state
pub record Holds (k : Kept) (σ : State) : Type 0 where
  pub state : held k ≡ σ
  pub ready : Ready k

-- a start: its record is the blank state's even where it is refused
pub record StartedAs (r : After Unit) (t : Table) : Type 0 where
  pub answer : r.answer ≡ then (start t) (λ σ. Ok tt)
  pub is : r.state ≡ record_of (blank t)
  pub ready : r.answer ≡ Ok tt → Holds r.state (blank t)

pub record DoneAs (r : After Unit) (w : Outcome) : Type 0 where
  pub answer : r.answer ≡ w.answer
  pub holds : Holds r.state w.state

pub record AskedAs (r : After ℕ) (buffer : List ℕ) (w : Reply) : Type 0 where
  pub answer : r.answer ≡ w.listed.answer
  pub written : buffer ≡ w.listed.buffer
  pub holds : Holds r.state w.state

pub record MonthAs (r : After Month) (cells festivals : List ℕ) (w : MonthReply) : Type 0 where
  pub answer : r.answer ≡ w.shown.answer
  pub first : cells ≡ w.shown.cells
  pub second : festivals ≡ w.shown.festivals
  pub holds : Holds r.state w.state

-- which years are stored, rising
abbrev pub stored_says : StoredYears → List ℕ
stored_says ST.Nothing = []
stored_says (ST.One y) = y ∷ []
stored_says (ST.Two y z) = y ∷ z ∷ []
