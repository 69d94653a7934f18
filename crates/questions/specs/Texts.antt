-- What the questions about rules as a text file are answered. Assumes nothing.
use Rattle.std.specs.Prelude.{ℕ, cond, List, ◌++◌, eqb, replicate}
use Rattle.paper.specs.Answers.{Answer}
use Rattle.text.specs.Digits.{digits}
use Rattle.rulefile.specs.Files.{read_into, write_into}
use Rattle.asked.specs.Line.{small}
use Rattle.asked.specs.declared.words.Words.{Words}
use Rattle.replies.specs.Replies.{said, reply_words, barred, bytes_words}
use Rattle.replies.specs.declared.Reply.TheVariants as R

-- the count or the refusal, and the buffer after the call: of numbers, and of bytes
abbrev pub read_words : Answer ℕ × List ℕ → List (List ℕ)
read_words x = reply_words (said R.Number x.0) ++ barred digits x.1

abbrev pub written_words : Answer ℕ × List ℕ → List (List ℕ)
written_words x = reply_words (said R.Number x.0) ++ bytes_words x.1

-- `readrules`: the rules of the lent text. The line's number is the buffer's length; each element is 7 before the call
unfoldable pub read_rules_words : List ℕ → Words → List (List ℕ)
read_rules_words text w = cond (eqb w.form 1) (read_words (read_into text (replicate (small w 1) 7))) (reply_words R.Unformed)

-- `writerules`: the file of the lent rules, in such a buffer of bytes
unfoldable pub write_rules_words : List ℕ → Words → List (List ℕ)
write_rules_words rules w = cond (eqb w.form 1) (written_words (write_into rules (replicate (small w 1) 7))) (reply_words R.Unformed)
