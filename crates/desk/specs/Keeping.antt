-- Questions to the kept state: which of them a line is, what it is answered, and the state after it. Assumes nothing.
use Rattle.std.specs.Prelude.{ℕ, ◌≡◌, Bool, true, false, cond, ◌||◌, List, ◌∷◌, map, eqb, ltb, replicate, Err, None, Ok, Option, Some}
use Rattle.paper.specs.Answers.{Answer}
use Rattle.text.specs.Digits.{digits}
use Rattle.output.specs.Gathered.{Gathers}
use Rattle.output.specs.declared.Out.{Out}
use Rattle.asked.specs.Line.{small}
use Rattle.asked.specs.Tags.{START, TAKE, APPEND, ASKBS, ASKAD, ASKGRID, FORGET, STORED}
use Rattle.asked.specs.declared.words.Words.{Words}
use Rattle.replies.specs.declared.Reply.TheVariants as R
use Rattle.replies.specs.Replies.{said, date_in, reply_words}
use Rattle.lending.specs.Lending.{ones, numbers_in, line_numbers}
use Rattle.kept.specs.State.{State, year_numbers}
use Rattle.kept.specs.Operations.{Outcome, take_rules, append_row, forgotten, Reply, ask_bs, ask_ad, MonthReply, ask_month}
use Rattle.kept.specs.Held.{held, Ready}
use Rattle.kept.specs.declared.Kept.{Kept}
use Rattle.questions.specs.Lists.{listed_words}
use Rattle.questions.specs.Months.{shown_words}
use Rattle.desk.specs.declared.keeping.Keeping.{Keeping}
use Rattle.desk.specs.declared.keeping.Keeping.TheVariants as K
use Rattle.desk.specs.declared.keeping.Question.{Question}
use Rattle.desk.specs.declared.keeping.Question.TheVariants as Q
use Rattle.desk.specs.declared.keeping.Said.{Said}

-- ---- which question a line is

-- a question where the line has its form
abbrev pub in_form : Bool → Keeping → Option Keeping
in_form good k = cond good (Some k) None

-- by tag and form: `start`, `askbs` and `askad` with four numbers, `askgrid` with seven, `append` with any or none, the others alone
unfoldable pub keeping_of : ℕ → ℕ → Option Keeping
keeping_of tag form =
    cond (eqb tag START) (in_form (eqb form (ones 4)) K.Start)
    (cond (eqb tag TAKE) (in_form (eqb form 0) (K.Ask Q.Take))
    (cond (eqb tag APPEND) (in_form (eqb form 0 || ltb 0 (numbers_in form 16)) (K.Ask Q.Append))
    (cond (eqb tag ASKBS) (in_form (eqb form (ones 4)) (K.Ask Q.DayBs))
    (cond (eqb tag ASKAD) (in_form (eqb form (ones 4)) (K.Ask Q.DayAd))
    (cond (eqb tag ASKGRID) (in_form (eqb form (ones 7)) (K.Ask Q.Month))
    (cond (eqb tag FORGET) (in_form (eqb form 0) (K.Ask Q.Forget))
    (cond (eqb tag STORED) (in_form (eqb form 0) (K.Ask Q.Stored))
    None)))))))

-- ---- what it is answered

-- the words of an answer, and the state after it, or none
pub record Told : Type 0 where
  pub words : List (List ℕ)
  pub state : Option State

-- a started state, or no state
abbrev pub start_told : Answer State → Told
start_told (Ok σ) = record { words = reply_words R.Good; state = Some σ }
start_told (Err k) = record { words = reply_words (R.Refused k); state = None }

abbrev pub done_told : Outcome → Told
done_told x = record { words = reply_words (said (λ done. R.Good) x.answer); state = Some x.state }

abbrev pub list_told : Reply → Told
list_told x = record { words = listed_words x.listed; state = Some x.state }

abbrev pub month_told : MonthReply → Told
month_told x = record { words = shown_words x.shown; state = Some x.state }

-- a lent buffer before a call
abbrev pub sevens : ℕ → List ℕ
sevens n = replicate n 7

-- a day's list, by BS date or else by Gregorian date
abbrev pub day_asked : Bool → State → Words → List ℕ → Reply
day_asked bs σ w out = cond bs (ask_bs σ (small w 1) (small w 2) (small w 3) out) (ask_ad σ (small w 1) (small w 2) (small w 3) out)

-- today, then the month
abbrev pub month_asked : State → Words → List ℕ → List ℕ → MonthReply
month_asked σ w cells festivals = ask_month σ (date_in w) (small w 4) (small w 5) cells festivals

-- the stored years
abbrev pub years_words : List ℕ → List (List ℕ)
years_words ys = digits 0 ∷ map digits ys

-- a question to a state, over the lent rules; the lengths of the lent buffers are the line's last numbers
unfoldable pub asked_of : State → List ℕ → Words → Question → Told
asked_of σ rules w Q.Take = done_told (take_rules σ rules)
asked_of σ rules w Q.Append = done_told (append_row σ (line_numbers w))
asked_of σ rules w Q.DayBs = list_told (day_asked true σ w (sevens (small w 4)))
asked_of σ rules w Q.DayAd = list_told (day_asked false σ w (sevens (small w 4)))
asked_of σ rules w Q.Month = month_told (month_asked σ w (sevens (small w 6)) (sevens (small w 7)))
asked_of σ rules w Q.Forget = record { words = reply_words R.Good; state = Some (forgotten σ) }
asked_of σ rules w Q.Stored = record { words = years_words (year_numbers σ.stored); state = Some σ }

-- without a state every question but `start` is out of form
unfoldable pub asked_if : Option State → List ℕ → Words → Question → Told
asked_if (Some σ) rules w q = asked_of σ rules w q
asked_if None rules w q = record { words = reply_words R.Unformed; state = None }

-- ---- how the code's records are read

abbrev pub state_in : Option Kept → Option State
state_in (Some k) = Some (held k)
state_in None = None

-- what is kept is a state
abbrev pub Sound : Option Kept → Type 0
Sound (Some k) = Ready k
Sound None = Unit {0}

-- the words were put behind what was gathered, and this is the state after it
pub record Says (before : List ℕ) (o : Out) (w : Told) (after : List ℕ) (r : Said) : Type 0 where
  pub words : Gathers before o w.words after r.out
  pub state : state_in r.kept ≡ w.state
  pub sound : Sound r.kept
