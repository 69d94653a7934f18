-- The words of the search for a tithi's starts: the reply, a bar and the lent buffer. Assumes nothing.
use Rattle.std.specs.Prelude.{ℕ, cond, List, ◌++◌, eqb, Float, length, replicate}
use Rattle.paper.specs.Floats.{dec}
use Rattle.output.specs.Floats.{float_text}
use Rattle.asked.specs.declared.words.Words.{Words}
use Rattle.sky.specs.Answers.{starts_answer, starts_buffer}
use Rattle.asked.specs.Line.{small, float}
use Rattle.replies.specs.Replies.{said, reply_words, barred}
use Rattle.replies.specs.declared.Reply.TheVariants as R

-- what is answered of the starts of tithi n from a to b, and the buffer after the call
unfoldable pub starts_words : ℕ → Float → Float → List Float → List (List ℕ)
starts_words n a b buffer = reply_words (said (λ p. R.Pair p.0 p.1) (starts_answer n a b (length buffer))) ++ barred float_text (starts_buffer n a b buffer)

-- a line of a tithi, two instants and the buffer's length; each element is 7 before the call
unfoldable pub search_words : Words → List (List ℕ)
search_words w = cond (eqb w.form 1441) (starts_words (small w 1) (float w 2) (float w 3) (replicate (small w 4) (dec 7 0))) (reply_words R.Unformed)
