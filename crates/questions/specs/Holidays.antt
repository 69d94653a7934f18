-- What the question about holidays is answered. Assumes nothing.
use Rattle.std.specs.Prelude.{ℕ, Bool, List, eqb}
use Rattle.conversion.specs.Calendar.{Calendar}
use Rattle.grid.specs.Cells.{one}
use Rattle.holiday.specs.Holiday.{holiday_under}
use Rattle.asked.specs.declared.words.Words.{Words}
use Rattle.asked.specs.Line.{small}
use Rattle.replies.specs.declared.Reply.{Reply}
use Rattle.replies.specs.declared.Reply.TheVariants as R
use Rattle.replies.specs.Replies.{said, formed}

-- 1 for yes, 0 for no
abbrev pub marked : Bool → Reply
marked b = R.Number (one b)

-- `holiday`: a BS date
unfoldable pub holiday_reply : Calendar → List ℕ → Words → Reply
holiday_reply c rules w = formed (eqb w.form 111) (said marked (holiday_under c rules (small w 1) (small w 2) (small w 3)))
