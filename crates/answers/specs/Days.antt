-- What the questions about Gregorian dates and instants are answered. Assumes nothing.
use Rattle.std.specs.Prelude.{ℕ, ◌||◌, List, [], ◌∷◌, eqb, Err, Ok}
use Rattle.paper.specs.Answers.{Answer}
use Rattle.gregorian.specs.declared.Date.{Date}
use Rattle.gregorian.specs.Answers.{number_answer, weekday_answer, next_answer, date_answer}
use Rattle.gregorian.specs.Instants.{julian_answer, npt_answer}
use Rattle.asked.specs.Tags.{DAY, DATE, JD, NPT}
use Rattle.asked.specs.declared.words.Words.{Words}
use Rattle.replies.specs.declared.Reply.{Reply}
use Rattle.replies.specs.declared.Reply.TheVariants as R
use Rattle.asked.specs.Line.{large, float}
use Rattle.replies.specs.Replies.{said, dated, formed, among, date_in}

-- a day number, a weekday, and the next date or none
abbrev pub day_of : Answer ℕ → Answer ℕ → Answer Date → Reply
day_of (Ok n) (Ok k) (Ok x) = R.Day n k x
day_of (Ok n) (Ok k) (Err e) = R.LastDay n k
day_of (Ok n) (Err e) x = R.Refused e
day_of (Err e) k x = R.Refused e

-- by tag; a day number may be larger than 65,535
abbrev pub days_rows : Words → List (ℕ × Reply)
days_rows w =
    (DAY, formed (eqb w.form 111) (day_of (number_answer (date_in w)) (weekday_answer (date_in w)) (next_answer (date_in w))))
    ∷ (DATE, formed (eqb w.form 1 || eqb w.form 2) (said dated (date_answer (large w 1))))
    ∷ (JD, formed (eqb w.form 1114) (said R.Float (julian_answer (date_in w) (float w 4))))
    ∷ (NPT, formed (eqb w.form 4) (said dated (npt_answer (float w 1))))
    ∷ []

unfoldable pub days_reply : Words → Reply
days_reply w = among w.tag (days_rows w)
