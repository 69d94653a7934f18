-- A line of a year table, without its line feed: numbers up to 65,535 with spaces (32) around them, and a comment from a # (35) to the end. Assumes nothing.
use Rattle.std.specs.Prelude.{ℕ, zero, suc, ◌+◌, Bool, cond, ◌||◌, List, [], ◌∷◌, eqb, length, replicate, None, Option, Some, Result, Ok, Err}
use Rattle.std.proofs.lemmas.List.Edits.{sets}
use Rattle.text.specs.Digits.{Got, got, no, found, starts, is_end, wide, decimal}
use Rattle.fields.specs.declared.row.Unread.{Unread}
use Rattle.fields.specs.declared.row.Unread.TheVariants.{NoNumber, TooMany}
use Rattle.fields.specs.declared.row.Row.{Row}
use Rattle.fields.specs.declared.row.Judged.{Judged}
use Rattle.fields.specs.declared.row.Judged.TheVariants as judged

-- ---- the numbers of a line

-- past the spaces
abbrev pub skip : List ℕ → List ℕ
skip [] = []
skip (b ∷ s) = cond (eqb b 32) (skip s) (b ∷ s)

-- nothing more that counts: the end, or a comment
unfoldable pub ends : List ℕ → Bool
ends s = is_end s || starts 35 s

-- no word, so the line counts for nothing
abbrev pub blank : List ℕ → Bool
blank s = ends (skip s)

-- a word is over: nothing more, or a space
unfoldable pub word_ends : List ℕ → Bool
word_ends s = ends s || starts 32 s

-- a number up to 65,535 that is a whole word, and the text after the spaces behind it
unfoldable pub number : List ℕ → Got ℕ
number s = found (decimal 65535 s) (λ n t. cond (word_ends t) (got n (skip t)) no) no

-- what the words of a line are: so many numbers, or there is one that is none, or one too many
pub data Words : Type 0 where
  are : List ℕ → Words
  no_number : Words
  too_many : Words

abbrev pub front : ℕ → Words → Words
front n (are ns) = are (n ∷ ns)
front n no_number = no_number
front n too_many = too_many

-- at most so many words to the end, read from the left
unfoldable pub words_to : ℕ → List ℕ → Words
words_to zero s = cond (ends s) (are []) too_many
words_to (suc most) s = cond (ends s) (are []) (found (number s) (λ n t. front n (words_to most t)) no_number)

-- the words of a line, thirteen at most
abbrev pub words_of : List ℕ → Words
words_of s = words_to 13 (skip s)

-- the numbers of a line that has nothing else
abbrev pub numbers_of : Words → List ℕ
numbers_of (are ns) = ns
numbers_of no_number = []
numbers_of too_many = []

-- ---- what the code's answers say

abbrev pub zeros : List ℕ
zeros = replicate 13 0

-- a line that is out of form keeps no number
abbrev pub faulty : Unread → Row
faulty why = record { form = Err why; values = zeros }

-- the words to come behind the k numbers that stand in front
abbrev pub packed : List ℕ → ℕ → Words → Row
packed values k (are ns) = record { form = Ok (k + length ns); values = sets values k ns }
packed values k no_number = faulty NoNumber
packed values k too_many = faulty TooMany

unfoldable pub row_of : List ℕ → Row
row_of s = packed zeros 0 (words_of s)

-- ---- what a line is where so many numbers are wanted

-- an empty line counts for nothing
unfoldable pub counted_as : ℕ → ℕ → Judged
counted_as wanted k = cond (eqb k 0) judged.Blank (cond (eqb k wanted) judged.Good judged.OtherCount)

abbrev pub judged_as : ℕ → Result ℕ Unread → Judged
judged_as wanted (Ok k) = counted_as wanted k
judged_as wanted (Err NoNumber) = judged.NoNumber
judged_as wanted (Err TooMany) = judged.OtherCount

-- ---- the comment behind a row

-- the text after the first #, without the spaces before it
abbrev pub comment : List ℕ → List ℕ
comment [] = []
comment (b ∷ s) = cond (eqb b 35) (skip s) (comment s)

-- the year that a comment says: four digits, and nothing behind them but spaces
unfoldable pub year_said : List ℕ → Option ℕ
year_said s = found (wide 4 (comment s)) (λ n t. cond (is_end (skip t)) (Some n) None) None
