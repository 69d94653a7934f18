-- What the questions about a date's sun, kalas and reading are answered. Assumes nothing.
use Rattle.std.specs.Prelude.{ℕ, cond, ◌&&◌, List, [], ◌∷◌, eqb, Float, Option}
use Rattle.paper.specs.Answers.{Answer}
use Rattle.gregorian.specs.declared.Date.{Date}
use Rattle.panchanga.specs.Answers.{events_answer, rise_answer, set_answer, nishita_answer, kala_answer, reading_answer}
use Rattle.panchanga.specs.declared.Kala.TheVariants.{Udaya, Madhyanna, Aparahna, Pradosh, Nishita, Begins}
use Rattle.asked.specs.Tags.{EVENTS, RISE, SET, NISHITA, READ, KALA}
use Rattle.asked.specs.declared.words.Words.{Words}
use Rattle.replies.specs.declared.Reply.{Reply}
use Rattle.replies.specs.declared.Reply.TheVariants as R
use Rattle.asked.specs.Line.{small}
use Rattle.replies.specs.Replies.{said, perhaps, formed, among, date_in}
use Rattle.answers.specs.Heavens.{instant_reply}

-- two instants or none
abbrev pub span_reply : Answer (Option (Float × Float)) → Reply
span_reply = said (perhaps (λ s. R.Span s.0 s.1))

-- by tag
abbrev pub date_rows : Date → List (ℕ × Reply)
date_rows x =
    (EVENTS, span_reply (events_answer x))
    ∷ (RISE, instant_reply (rise_answer x))
    ∷ (SET, instant_reply (set_answer x))
    ∷ (NISHITA, span_reply (nishita_answer x))
    ∷ (READ, said R.Reading (reading_answer x))
    ∷ []

-- by the kala's number
abbrev pub kala_rows : Date → List (ℕ × Reply)
kala_rows x =
    (0, instant_reply (kala_answer Udaya x))
    ∷ (1, instant_reply (kala_answer Madhyanna x))
    ∷ (2, instant_reply (kala_answer Aparahna x))
    ∷ (3, instant_reply (kala_answer Pradosh x))
    ∷ (4, instant_reply (kala_answer Nishita x))
    ∷ (5, instant_reply (kala_answer Begins x))
    ∷ []

-- each asks with a date, and `kala` with a kala's number behind it
unfoldable pub almanac_reply : Words → Reply
almanac_reply w =
    cond (eqb w.form 111) (among w.tag (date_rows (date_in w)))
    (formed (eqb w.tag KALA && eqb w.form 1111) (among (small w 4) (kala_rows (date_in w))))
