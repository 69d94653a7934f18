-- What `convert` hands over to be written: what is gathered is written out before the place goes back to the front. Assumes nothing.
use Rattle.std.specs.Prelude.{ℕ, ◌+◌, Bool, cond, List, [], ◌∷◌, ◌++◌, leb, length, take}
use Rattle.lines.specs.Lines.{handed}
use Rattle.output.specs.Gathered.{Gathered, written_out}
use Rattle.asked.specs.Turns.{fresh}
use Rattle.asked.specs.Runs.{Came}
use Rattle.convert.specs.Replies.{reply_to, gather_reply}

-- the bytes written out so far, and what is gathered behind them
pub record Told : Type 0 where
  pub written : List ℕ
  pub gathered : Gathered

-- nothing of either
abbrev pub untold : List ℕ → Told
untold out = record { written = []; gathered = fresh out }

-- both, in their order
abbrev pub told_bytes : Told → List ℕ
told_bytes x = x.written ++ take x.gathered.at x.gathered.buffer

-- all that is gathered is written out, unless there is time yet
abbrev pub write_unless : Bool → Told → Told
write_unless later x = cond later x (record { written = told_bytes x; gathered = written_out x.gathered })

-- the reply to a line: what is gathered is written out first where 80 bytes are not free behind it
abbrev pub told_reply : Told → List ℕ → Told
told_reply x s = record {
  written = (write_unless (leb (x.gathered.at + 80) (length x.gathered.buffer)) x).written;
  gathered = gather_reply x.gathered s;
}

-- the replies to some lines, the first first; they are written out before more is read
abbrev pub told_after : Told → List Came → Told
told_after x [] = x
told_after x (l ∷ ls) = told_after (write_unless l.more (told_reply x (handed l.line))) ls

-- the replies one behind the other
abbrev pub replies : List Came → List ℕ
replies [] = []
replies (l ∷ ls) = reply_to (handed l.line) ++ replies ls
