-- What a question is answered, and its words. Assumes nothing.
use Rattle.std.specs.Prelude.{ℕ, Bool, cond, List, [], ◌∷◌, ◌++◌, map, eqb, Float, Err, None, Ok, Option, Some}
use Rattle.paper.specs.Answers.{Answer}
use Rattle.paper.specs.Refusals.{number, told}
use Rattle.paper.specs.declared.Told.{Told}
use Rattle.paper.specs.declared.Told.TheVariants as T
use Rattle.text.specs.Digits.{digits}
use Rattle.text.specs.Quoted.{bytes}
use Rattle.gregorian.specs.declared.Date.{Date}
use Rattle.output.specs.Floats.{float_text}
use Rattle.output.specs.Octets.{octets_text}
use Rattle.asked.specs.Line.{small}
use Rattle.asked.specs.declared.words.Words.{Words}
use Rattle.replies.specs.declared.Reply.{Reply}
use Rattle.replies.specs.declared.Reply.TheVariants as R

-- ---- from an answer to a reply

-- what is made of the value, or the refusal
abbrev pub said : {A : Type 0} → (A → Reply) → Answer A → Reply
said f (Ok x) = f x
said f (Err k) = R.Refused k

-- the same of a value that may be none
abbrev pub perhaps : {A : Type 0} → (A → Reply) → Option A → Reply
perhaps f (Some x) = f x
perhaps f None = R.Nothing

-- a date
abbrev pub dated : Date → Reply
dated x = R.Date x.year x.month x.day

-- ---- from a line to a question

-- the reply where the line has its form
abbrev pub formed : Bool → Reply → Reply
formed good r = cond good r R.Unformed

-- the row of a tag, a question mark for a tag that has none
unfoldable pub among : ℕ → List (ℕ × Reply) → Reply
among tag [] = R.Unformed
among tag (row ∷ rows) = cond (eqb tag row.0) row.1 (among tag rows)

-- a line's first three words
abbrev pub date_in : Words → Date
date_in w = record { year = small w 1; month = small w 2; day = small w 3 }

-- ---- from a reply to its words

abbrev pub date_words : ℕ → ℕ → ℕ → List (List ℕ)
date_words y m d = digits y ∷ digits m ∷ digits d ∷ []

-- what is told behind a refusal's number: of 7 the days after the last day, or behind a minus sign those before the first; of 12 the line
abbrev pub told_words : Option Told → List (List ℕ)
told_words (Some (T.Before k)) = (bytes "-" ++ digits k) ∷ []
told_words (Some (T.After k)) = digits k ∷ []
told_words (Some (T.Line k)) = digits k ∷ []
told_words None = []

-- a question mark, a refusal's number and what is told with it, or 0 and the values; "none" where there is none
unfoldable pub reply_words : Reply → List (List ℕ)
reply_words R.Unformed = bytes "?" ∷ []
reply_words (R.Refused k) = digits (number k) ∷ told_words (told k)
reply_words R.Good = digits 0 ∷ []
reply_words R.Nothing = digits 0 ∷ bytes "none" ∷ []
reply_words (R.Number n) = digits 0 ∷ digits n ∷ []
reply_words (R.Pair n k) = digits 0 ∷ digits n ∷ digits k ∷ []
reply_words (R.Date y m d) = digits 0 ∷ date_words y m d
reply_words (R.Float x) = digits 0 ∷ float_text x ∷ []
reply_words (R.Span x y) = digits 0 ∷ float_text x ∷ float_text y ∷ []
reply_words (R.Day n w x) = digits 0 ∷ digits n ∷ digits w ∷ date_words x.year x.month x.day
reply_words (R.LastDay n w) = digits 0 ∷ digits n ∷ digits w ∷ bytes "none" ∷ []
reply_words (R.Reading r) = digits 0 ∷ digits r.tithi ∷ digits r.end ∷ digits r.sunrise ∷ digits r.sunset ∷ []

-- a bar, and every element of a lent buffer
abbrev pub barred : {A : Type 0} → (A → List ℕ) → List A → List (List ℕ)
barred text buffer = bytes "|" ∷ map text buffer

-- a bar, and the bytes of a lent buffer as one word; no word where it has none
abbrev pub bytes_words : List ℕ → List (List ℕ)
bytes_words [] = bytes "|" ∷ []
bytes_words (b ∷ bs) = bytes "|" ∷ octets_text (b ∷ bs) ∷ []
