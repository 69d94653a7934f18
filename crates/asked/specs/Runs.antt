-- A program that answers the lines of its input, one after the other. Which bytes come, and whether a read or a write fails, is any. Assumes nothing.
use Rattle.std.specs.Prelude.{ℕ, ◌≡◌, Bool, List, [], ◌∷◌, take}
use Rattle.text.specs.Kept.{Current}
use Rattle.lines.specs.Lines.{handed, lines_of, waiting, has_feed}
use Rattle.output.specs.Gathered.{Gathered, gathered, ended}
use Rattle.asked.specs.declared.input.Turn.{Turn}
use Rattle.asked.specs.Turns.{input_of, heard, fresh, TurnAfter}

-- ---- a program

-- what it holds after a line, and what is gathered with its reply to that line, by what it held before
pub record Program (S : Type 0) : Type 0 where
  pub next : S → List ℕ → S
  pub reply : S → Gathered → List ℕ → Gathered

-- a line that was answered, and whether more was read with it that holds a whole line
pub record Came : Type 0 where
  pub line : Current
  pub more : Bool

-- the lines alone
abbrev pub lines_in : List Came → List Current
lines_in [] = []
lines_in (l ∷ ls) = l.line ∷ lines_in ls

-- what a program holds after a line
abbrev pub holds_next : {S : Type 0} → Program S → S → Came → S
holds_next p x l = p.next x (handed l.line)

-- its reply behind what is gathered, ended; it is written out before more is read
abbrev pub gathers_next : {S : Type 0} → Program S → S → Gathered → Came → Gathered
gathers_next p x g l = heard l.more (ended (p.reply x g (handed l.line)))

-- what it holds after some lines, the first first
abbrev pub holds_after : {S : Type 0} → Program S → S → List Came → S
holds_after p x [] = x
holds_after p x (l ∷ ls) = holds_after p (holds_next p x l) ls

-- and what is gathered of its replies
abbrev pub gathers_after : {S : Type 0} → Program S → S → Gathered → List Came → Gathered
gathers_after p x g [] = g
gathers_after p x g (l ∷ ls) = gathers_after p (holds_next p x l) (gathers_next p x g l) ls

-- ---- a turn

-- the line of a turn is answered, and the next one is read
pub record TurnDone {S : Type 0} (p : Program S) (t : Turn) (x : S) (piece line out : List ℕ) (y : S) (piece' line' out' : List ℕ) (r : Turn) : Type 0 where
  pub holds : y ≡ p.next x (take t.len line)
  pub turn : TurnAfter (input_of t) piece line piece' line' out'
      (heard (has_feed (waiting piece (input_of t))) (ended (p.reply x (gathered out t.out) (take t.len line)))) r

-- ---- a run

-- how a run ends
pub data Ending : Type 0 where
  -- with the input
  over : Ending
  -- after so many lines, since a read failed or the steps were used up
  unread : ℕ → Ending
  -- after so many lines, since a write failed
  unwritten : ℕ → Ending

-- the lines that were answered by then
abbrev pub until : Ending → List Current → List Current
until over lines = lines
until (unread n) lines = take n lines
until (unwritten n) lines = take n lines

-- some bytes came, and these are their lines up to the run's end, where so many bytes of each are kept
pub record Ends (room : ℕ) (lines : List Current) : Type 0 where
  pub bytes : List ℕ
  pub ending : Ending
  pub same : lines ≡ until ending (lines_of room bytes)

-- the lines that a run answered
pub record Heard (room : ℕ) : Type 0 where
  pub answered : List Came
  pub ends : Ends room (lines_in answered)

-- what a program holds and its lent buffer after a run
pub record Run {S : Type 0} (p : Program S) (room : ℕ) (first : S) (out : List ℕ) (last : S) (out' : List ℕ) : Type 0 where
  pub heard : Heard room
  pub holds : last ≡ holds_after p first heard.answered
  pub gathers : out' ≡ (gathers_after p first (fresh out) heard.answered).buffer
