-- What the questions about the lent rules are answered. Assumes nothing.
use Rattle.std.specs.Prelude.{ℕ, cond, List, ◌++◌, eqb, replicate}
use Rattle.paper.specs.declared.Refusal.TheVariants.{BadRules}
use Rattle.text.specs.Digits.{digits}
use Rattle.conversion.specs.declared.Table.{Table}
use Rattle.rules.specs.Rules.{accepted_rules}
use Rattle.rules.specs.Festivals.{Listed}
use Rattle.festivals.specs.Answers.{on_bs, on_ad}
use Rattle.asked.specs.Tags.{LISTBS}
use Rattle.asked.specs.declared.words.Words.{Words}
use Rattle.replies.specs.declared.Reply.{Reply}
use Rattle.replies.specs.declared.Reply.TheVariants as R
use Rattle.asked.specs.Line.{small}
use Rattle.replies.specs.Replies.{said, formed, reply_words, barred}

-- `checkrules`: whether the rules are accepted, or the refusal
abbrev pub rules_reply : List ℕ → Words → Reply
rules_reply rules w = formed (eqb w.form 0) (cond (accepted_rules rules) R.Good (R.Refused BadRules))

-- `listbs` asks by BS date, `listad` by Gregorian date
unfoldable pub list_asked : Table → List ℕ → List ℕ → Words → List ℕ → Listed
list_asked t rows rules w out =
    cond (eqb w.tag LISTBS) (on_bs t rows rules (small w 1) (small w 2) (small w 3) out) (on_ad t rows rules (small w 1) (small w 2) (small w 3) out)

-- the count or the refusal, and the buffer after the call
abbrev pub listed_words : Listed → List (List ℕ)
listed_words x = reply_words (said R.Number x.answer) ++ barred digits x.buffer

-- the line's fourth number is the buffer's length; each element is 7 before the call
unfoldable pub list_words : Table → List ℕ → List ℕ → Words → List (List ℕ)
list_words t rows rules w =
    cond (eqb w.form 1111) (listed_words (list_asked t rows rules w (replicate (small w 4) 7))) (reply_words R.Unformed)
