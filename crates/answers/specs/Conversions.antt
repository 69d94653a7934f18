-- What the questions about the lent table are answered. Assumes nothing.
use Rattle.std.specs.Prelude.{ℕ, Bool, cond, List, [], ◌∷◌, eqb}
use Rattle.paper.specs.declared.Refusal.TheVariants.{BadTable}
use Rattle.conversion.specs.Calendar.{Calendar, to_ad, from_ad, month_len, valid_bs}
use Rattle.conversion.specs.declared.BsDate.{BsDate}
use Rattle.asked.specs.Tags.{CHECK, BS, AD, LEN, VALID}
use Rattle.asked.specs.declared.words.Words.{Words}
use Rattle.replies.specs.declared.Reply.{Reply}
use Rattle.replies.specs.declared.Reply.TheVariants as R
use Rattle.asked.specs.Line.{small}
use Rattle.replies.specs.Replies.{said, dated, formed, among}

-- whether the table is accepted: nothing more, or the refusal
abbrev pub checked : Bool → Reply
checked good = cond good R.Good (R.Refused BadTable)

-- a BS date
abbrev pub bs_dated : BsDate → Reply
bs_dated x = R.Date x.year x.month x.day

-- a line's first three words
abbrev pub bs_in : Words → BsDate
bs_in w = record { year = small w 1; month = small w 2; day = small w 3 }

-- by tag
abbrev pub conversions_rows : Calendar → Words → List (ℕ × Reply)
conversions_rows c w =
    (CHECK, formed (eqb w.form 0) (checked c.good))
    ∷ (BS, formed (eqb w.form 111) (said dated (to_ad c (small w 1) (small w 2) (small w 3))))
    ∷ (AD, formed (eqb w.form 111) (said bs_dated (from_ad c (small w 1) (small w 2) (small w 3))))
    ∷ (LEN, formed (eqb w.form 11) (said R.Number (month_len c (small w 1) (small w 2))))
    ∷ (VALID, formed (eqb w.form 111) (said (λ good. R.Good) (valid_bs c (small w 1) (small w 2) (small w 3))))
    ∷ []

unfoldable pub conversions_reply : Calendar → Words → Reply
conversions_reply c w = among w.tag (conversions_rows c w)
