-- What the questions about an instant, a day of terrestrial time, a year, an elongation or a fraction of a day are answered. Assumes nothing.
use Rattle.std.specs.Prelude.{ℕ, List, [], ◌∷◌, eqb, Float, Option}
use Rattle.paper.specs.Answers.{Answer}
use Rattle.sky.specs.Time.{delta_t}
use Rattle.sky.specs.Tithi.{tithi_of}
use Rattle.sky.specs.Answers.{tt_answer, sun_answer, moon_answer, elongation_answer, tithi_answer, end_answer}
use Rattle.panchanga.specs.Clock.{minutes_of}
use Rattle.panchanga.specs.Answers.{clock_answer}
use Rattle.asked.specs.Tags.{DELTAT, TT, SUN, MOON, ELONG, TITHI, TITHIOF, END, CLOCK, MINUTES}
use Rattle.asked.specs.declared.words.Words.{Words}
use Rattle.replies.specs.declared.Reply.{Reply}
use Rattle.replies.specs.declared.Reply.TheVariants as R
use Rattle.asked.specs.Line.{float}
use Rattle.replies.specs.Replies.{said, perhaps, formed, among}

-- an instant or none
abbrev pub instant_reply : Answer (Option Float) → Reply
instant_reply = said (perhaps R.Float)

-- by tag
abbrev pub float_rows : Float → List (ℕ × Reply)
float_rows x =
    (DELTAT, R.Float (delta_t x))
    ∷ (TT, said R.Float (tt_answer x))
    ∷ (SUN, said R.Float (sun_answer x))
    ∷ (MOON, said R.Float (moon_answer x))
    ∷ (ELONG, said R.Float (elongation_answer x))
    ∷ (TITHI, said R.Number (tithi_answer x))
    ∷ (TITHIOF, R.Number (tithi_of x))
    ∷ (END, instant_reply (end_answer x))
    ∷ (CLOCK, said R.Number (clock_answer x))
    ∷ (MINUTES, R.Number (minutes_of x))
    ∷ []

-- each asks with one float
unfoldable pub heavens_reply : Words → Reply
heavens_reply w = formed (eqb w.form 4) (among w.tag (float_rows (float w 1)))
