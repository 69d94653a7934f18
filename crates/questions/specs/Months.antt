-- What the questions about months are answered. Assumes nothing.
use Rattle.std.specs.Prelude.{ℕ, ℤ, Bool, true, false, cond, ◌||◌, List, [], ◌∷◌, ◌++◌, eqb, leb, get_or, replicate, Err, None, Ok, Option, Some}
use Rattle.paper.specs.Answers.{Answer}
use Rattle.text.specs.Digits.{digits}
use Rattle.conversion.specs.declared.Table.{Table}
use Rattle.conversion.specs.Calendar.{Calendar}
use Rattle.grid.specs.Step.{step_month}
use Rattle.grid.specs.Month.{Shown}
use Rattle.grid.specs.Kathmandu.{month_shown}
use Rattle.grid.specs.declared.BsMonth.{BsMonth}
use Rattle.grid.specs.declared.Month.{Month}
use Rattle.asked.specs.Line.{whole_of}
use Rattle.asked.specs.declared.words.Words.{Words}
use Rattle.replies.specs.declared.Reply.{Reply}
use Rattle.replies.specs.declared.Reply.TheVariants as R
use Rattle.asked.specs.Line.{small}
use Rattle.replies.specs.Replies.{said, formed, date_in, date_words, reply_words, barred}

-- a month's year and number
abbrev pub monthly : BsMonth → Reply
monthly x = R.Pair x.year x.month

-- a step by a whole number; one that no i32 holds is out of form
abbrev pub step_by : Calendar → ℕ → ℕ → Option ℤ → Reply
step_by c y m (Some z) = said monthly (step_month c y m z)
step_by c y m None = R.Unformed

-- with its last number behind a minus sign or not; a month past 255 is out of form
unfoldable pub stepped : Calendar → Words → Bool → Reply
stepped c w minus = formed (leb (small w 2) 255) (step_by c (small w 1) (small w 2) (whole_of minus (get_or w.values 3 0)))

-- `step`
unfoldable pub step_reply : Calendar → Words → Reply
step_reply c w = cond (eqb w.form 111 || eqb w.form 112) (stepped c w false) (formed (eqb w.form 113) (stepped c w true))

-- a month's days, its first and its last date, how many cells and how many festivals; or the refusal
abbrev pub month_words : Answer Month → List (List ℕ)
month_words (Ok m) =
    (digits 0 ∷ digits m.days ∷ [])
    ++ (date_words m.first.year m.first.month m.first.day
    ++ (date_words m.last.year m.last.month m.last.day
    ++ (digits m.cells ∷ digits m.festivals ∷ [])))
month_words (Err k) = reply_words (R.Refused k)

-- the month, and both buffers after the call
abbrev pub shown_words : Shown → List (List ℕ)
shown_words x = (month_words x.answer ++ barred digits x.cells) ++ barred digits x.festivals

-- `grid`: today, year, month and both buffers' lengths; each element is 7 before the call
unfoldable pub grid_words : Table → List ℕ → List ℕ → Words → List (List ℕ)
grid_words t rows rules w =
    cond (eqb w.form 1111111)
    (shown_words (month_shown t rows rules (date_in w) (small w 4) (small w 5) (replicate (small w 6) 7) (replicate (small w 7) 7)))
    (reply_words R.Unformed)
