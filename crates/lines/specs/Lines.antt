-- What a reader brings, a line at a time. Which bytes come is outside every contract: they are any. Assumes nothing.
use Rattle.std.specs.Prelude.{ℕ, ◌-◌, ◌≤◌, ◌≡◌, Bool, true, false, cond, List, [], ◌∷◌, ◌++◌, ◌==◌, eqb, leb, length, take, drop, None, Option, Some, is_none}
use Rattle.std.specs.List.{list_any}
use Rattle.text.specs.Kept.{Current, short, long, more, current, kept_of, Line, whole, going, line}
use Rattle.lines.specs.declared.Input.{Input}

-- before the first line, with so many steps to go
abbrev pub started : ℕ → Input
started steps = record { left = steps; len = 0; long = false; failed = false; ends = false; from = 0; to = 0 }

-- no line any more, at the input's end or before it
abbrev pub ended : Bool → Input
ended failed = record { left = 0; len = 0; long = false; failed = failed; ends = true; from = 0; to = 0 }

-- a line that is held, of length 0 where it is too long, and whether the input is over behind it; with no steps left it counts as not read to its end
abbrev pub given : Option ℕ → ℕ → Bool → ℕ → ℕ → Input
given held left ends from to = record {
  left = left;
  len = kept_of held;
  long = is_none held;
  failed = eqb left 0;
  ends = ends;
  from = from;
  to = to;
}

-- what is held at the end of the input: a last line needs no line feed, but has a byte
abbrev pub last_of : Option ℕ → ℕ → Input
last_of (Some kept) left = cond (eqb kept 0) (ended false) (given (Some kept) left true 0 0)
last_of None left = given None left true 0 0

-- the bytes of a piece up to a place, none where it has not so many
abbrev pub front : List ℕ → ℕ → List ℕ
front piece to = cond (leb to (length piece)) (take to piece) []

-- the bytes that were read and are still to be taken in
abbrev pub waiting : List ℕ → Input → List ℕ
waiting piece input = drop input.from (front piece input.to)

-- whether a line feed (10) is among bytes
abbrev pub has_feed : List ℕ → Bool
has_feed s = list_any (λ b. b == 10) s

-- the line that stands in the buffer, or that it was too long
abbrev pub line_in : List ℕ → Input → Current
line_in buffer input = current buffer input.len input.long

-- the bytes of a line that are handed over: none of one that was too long
abbrev pub handed : Current → List ℕ
handed (short s) = s
handed long = []

-- an input after the bytes that make this line
pub data Next (read : Line) (piece buffer : List ℕ) (r : Input) : Type 0 where
  -- the line came to its line feed, and the bytes behind that wait
  fed : read ≡ whole (line_in buffer r) (waiting piece r) → r.ends ≡ false → r.failed ≡ eqb r.left 0 → Next read piece buffer r
  -- the input is over, and a last line needs no line feed
  last : read ≡ going (line_in buffer r) → (line_in buffer r ≡ short [] → ⊥) → r.ends ≡ true → r.failed ≡ eqb r.left 0 → Next read piece buffer r
  -- the input is over with no byte behind the last line feed
  over : read ≡ going (short []) → r ≡ ended false → Next read piece buffer r
  -- a read failed, or the steps were used up
  unread : r ≡ ended true → Next read piece buffer r

-- the next line of an input: made of the bytes that waited and of others that came; and none where the input was over
pub record NextLine (input : Input) (piece buffer piece' buffer' : List ℕ) (r : Input) : Type 0 where
  pub came : List ℕ
  pub next : input.ends ≡ false → Next (line (length buffer) (short []) (waiting piece input ++ came)) piece' buffer' r
  pub past : input.ends ≡ true → r ≡ ended false
  pub bytes : take r.len buffer' ≡ handed (line_in buffer' r)
  pub inside : r.len ≤ length buffer
  pub fewer : r.left ≤ input.left - 1

-- ---- all lines of an input

-- what stands behind the last line feed: a line, if it has a byte
abbrev pub last_line : Current → List Current
last_line (short []) = []
last_line (short (b ∷ s)) = short (b ∷ s) ∷ []
last_line long = long ∷ []

-- the lines of bytes, each up to its line feed (10), where the first of them is there so far
abbrev pub lines_from : ℕ → Current → List ℕ → List Current
lines_from room c [] = last_line c
lines_from room c (b ∷ s) = cond (eqb b 10) (c ∷ lines_from room (short []) s) (lines_from room (more room c b) s)

-- the lines of an input of these bytes, where so many bytes of each are kept
abbrev pub lines_of : ℕ → List ℕ → List Current
lines_of room s = lines_from room (short []) s
