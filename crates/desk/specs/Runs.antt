-- Lines, one after the other: what they lend, the state that is kept, and what is gathered of their answers. Which bytes come is any. Assumes nothing.
use Rattle.std.specs.Prelude.{ℕ, ◌≡◌, cond, List, [], None, Option, Some}
use Rattle.asked.specs.Line.{words_of}
use Rattle.asked.specs.Octets.{octets_in, held}
use Rattle.asked.specs.Runs.{Program, holds_after, TurnDone, Heard, Run}
use Rattle.asked.specs.declared.input.Turn.{Turn}
use Rattle.asked.specs.declared.bytes.Octets.{Octets}
use Rattle.asked.specs.declared.words.Words.{Words}
use Rattle.output.specs.Gathered.{Gathered, puts}
use Rattle.lending.specs.declared.Lent.{Lent}
use Rattle.lending.specs.Lending.{Loan, loan_of, loan_after, lending_of, lends, lent_rules, table_in}
use Rattle.kept.specs.State.{State}
use Rattle.kept.specs.Operations.{start}
use Rattle.questions.specs.Questions.{answer_words}
use Rattle.desk.specs.declared.Stepped.{Stepped}
use Rattle.kept.specs.declared.Kept.{Kept}
use Rattle.desk.specs.declared.keeping.Keeping.{Keeping}
use Rattle.desk.specs.declared.keeping.Keeping.TheVariants as K
use Rattle.desk.specs.Keeping.{keeping_of, Told, start_told, asked_if, state_in, Sound}

-- what is lent, and the state that is kept, or none
pub record Desk : Type 0 where
  pub loan : Loan
  pub state : Option State

abbrev pub desk_of : Loan → Option Kept → Desk
desk_of x k = record { loan = x; state = state_in k }

-- what a line is answered over what is lent and the state, and the state after it
unfoldable pub told_by : Loan → Option State → Words → Option Keeping → Told
told_by x k w (Some K.Start) = start_told (start (table_in w))
told_by x k w (Some (K.Ask q)) = asked_if k (lent_rules x) w q
told_by x k w None = record { words = answer_words x w; state = k }

-- nothing to a line that lends, and the state stays
unfoldable pub told_to : Loan → Option State → Words → Octets → Told
told_to x k w o = cond (lends (lending_of w.tag w.form o.count)) (record { words = []; state = k }) (told_by x k w (keeping_of w.tag w.form))

-- what is lent after a line
unfoldable pub lend_line : Loan → List ℕ → Loan
lend_line x s = loan_after x (words_of s) (held (octets_in s))

-- over what is lent after a line and the state before it: its answer, and the state after it
unfoldable pub tell_line : Desk → List ℕ → Told
tell_line d s = told_to (lend_line d.loan s) d.state (words_of s) (held (octets_in s))

-- what is lent and kept after a line
abbrev pub desk_after : Desk → List ℕ → Desk
desk_after d s = record { loan = lend_line d.loan s; state = (tell_line d s).state }

-- the answer to a line, behind what is gathered
abbrev pub answer_line : Desk → Gathered → List ℕ → Gathered
answer_line d g s = puts g (tell_line d s).words

-- the program: each line lends or is answered
abbrev pub answering : Program Desk
answering = record { next = desk_after; reply = answer_line }

-- a line is answered, and the next one is read; what is kept stays a state
pub record StepDone (t : Turn) (x : Loan) (k : Option Kept) (piece line out : List ℕ) (y : Loan) (piece' line' out' : List ℕ) (r : Stepped) : Type 0 where
  pub done : TurnDone answering t (desk_of x k) piece line out (desk_of y r.kept) piece' line' out' r.turn
  pub sound : Sound r.kept

-- before the first line no state is kept
abbrev pub opened : Loan → Desk
opened x = record { loan = x; state = None }

-- the lists after the lines that came
pub record Lends (room : ℕ) (first : Loan) (rows rules text : List ℕ) : Type 0 where
  pub heard : Heard room
  pub lent : Lent
  pub state : Option State
  pub same : record { loan = loan_of lent rows rules text; state = state } ≡ holds_after answering (opened first) heard.answered

-- the lists and the buffer of the answers after the lines that came
pub record Answers (room : ℕ) (first : Loan) (out rows rules text out' : List ℕ) : Type 0 where
  pub lent : Lent
  pub state : Option State
  pub run : Run answering room (opened first) out (record { loan = loan_of lent rows rules text; state = state }) out'
