-- What every question is answered, by its tag. Assumes nothing.
use Rattle.std.specs.Prelude.{ℕ, Bool, false, cond, ◌||◌, List, [], ◌∷◌, eqb, take}
use Rattle.conversion.specs.declared.Table.{Table}
use Rattle.conversion.specs.Calendar.{Calendar}
use Rattle.conversion.specs.Flat.{flat}
use Rattle.asked.specs.Tags.{CHECK, CHECKRULES, READRULES, WRITERULES, BS, AD, LEN, VALID, STEP, STARTS, LISTBS, LISTAD, GRID, DAY, DATE}
use Rattle.asked.specs.Tags.{JD, NPT, EVENTS, RISE, SET, KALA, NISHITA, READ, HOLIDAY, SIN, COS, ASIN, ACOS, TAN}
use Rattle.asked.specs.declared.words.Words.{Words}
use Rattle.replies.specs.declared.Reply.{Reply}
use Rattle.replies.specs.Replies.{reply_words}
use Rattle.answers.specs.Searches.{search_words}
use Rattle.answers.specs.Days.{days_reply}
use Rattle.answers.specs.Conversions.{conversions_reply}
use Rattle.answers.specs.Trigonometry.{trigonometry_reply}
use Rattle.answers.specs.Almanac.{almanac_reply}
use Rattle.answers.specs.Heavens.{heavens_reply}
use Rattle.lending.specs.Lending.{Loan, lent_rules}
use Rattle.questions.specs.Holidays.{holiday_reply}
use Rattle.questions.specs.Lists.{rules_reply, list_words}
use Rattle.questions.specs.Months.{step_reply, grid_words}
use Rattle.questions.specs.Texts.{read_rules_words, write_rules_words}

-- whether a tag is one of these
unfoldable pub one_of : List ℕ → ℕ → Bool
one_of [] tag = false
one_of (k ∷ ks) tag = eqb tag k || one_of ks tag

-- the reply to a question that lends no buffer, by its tag, a tag that is none among the others
unfoldable pub reply_by : ℕ → Calendar → List ℕ → Words → Reply
reply_by tag c rules w =
    cond (one_of (JD ∷ DAY ∷ NPT ∷ DATE ∷ []) tag) (days_reply w)
    (cond (one_of (AD ∷ BS ∷ LEN ∷ CHECK ∷ VALID ∷ []) tag) (conversions_reply c w)
    (cond (one_of (COS ∷ SIN ∷ TAN ∷ ACOS ∷ ASIN ∷ []) tag) (trigonometry_reply w)
    (cond (one_of (SET ∷ KALA ∷ READ ∷ RISE ∷ EVENTS ∷ NISHITA ∷ []) tag) (almanac_reply w)
    (cond (one_of (CHECKRULES ∷ []) tag) (rules_reply rules w)
    (cond (one_of (STEP ∷ []) tag) (step_reply c w)
    (cond (one_of (HOLIDAY ∷ []) tag) (holiday_reply c rules w)
    (heavens_reply w)))))))

abbrev pub reply_to : Calendar → List ℕ → Words → Reply
reply_to c rules w = reply_by w.tag c rules w

-- the words of an answer, by the question's tag
unfoldable pub words_by : ℕ → Table → List ℕ → List ℕ → List ℕ → Words → List (List ℕ)
words_by tag t rows rules text w =
    cond (one_of (STARTS ∷ []) tag) (search_words w)
    (cond (one_of (LISTAD ∷ LISTBS ∷ []) tag) (list_words t rows rules w)
    (cond (one_of (GRID ∷ []) tag) (grid_words t rows rules w)
    (cond (one_of (READRULES ∷ []) tag) (read_rules_words text w)
    (cond (one_of (WRITERULES ∷ []) tag) (write_rules_words rules w)
    (reply_words (reply_to (flat t rows) rules w))))))

-- the answer over what is lent
unfoldable pub answer_words : Loan → Words → List (List ℕ)
answer_words x w = words_by w.tag x.lent.table (take x.lent.cells x.rows) (lent_rules x) (take x.lent.octets x.text) w
