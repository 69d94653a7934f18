-- The turns of a program that answers each line of standard input. What the input holds, and whether a write fails, is any. Assumes nothing.
use Rattle.std.specs.Prelude.{ℕ, ◌-◌, ◌≤◌, ◌≡◌, Bool, true, false, cond, ◌||◌, List, eqb, length}
use Rattle.lines.specs.declared.Input.{Input}
use Rattle.lines.specs.Lines.{NextLine}
use Rattle.output.specs.declared.Out.{Out}
use Rattle.asked.specs.declared.input.Turn.{Turn}
use Rattle.output.specs.Gathered.{Gathered, gathered, written_out}

-- the input as a turn left it
abbrev pub input_of : Turn → Input
input_of t = record { left = t.left; len = t.len; long = false; failed = false; ends = t.ends; from = t.from; to = t.to }

-- no turn any more
abbrev pub no_turn : Out → Turn
no_turn o = record { left = 0; len = 0; ends = true; from = 0; to = 0; out = o }

-- the turn of a line; where there is none, or a write failed, the end, and all that was gathered is written out
abbrev pub turn_of : Input → Out → Bool → Turn
turn_of input o failed =
    cond (o.failed || eqb input.left 0) (no_turn (record { at = 0; begun = o.begun; failed = failed }))
    (record { left = input.left; len = input.len; ends = input.ends; from = input.from; to = input.to; out = o })

-- what was answered is written out before a read: whoever asks may wait for it
abbrev pub heard : Bool → Gathered → Gathered
heard more g = cond more g (written_out g)

-- nothing gathered yet in a lent buffer
abbrev pub fresh : List ℕ → Gathered
fresh out = record { buffer = out; at = 0; begun = false }

-- the turn after an input stood so, with so much gathered
pub record TurnAfter (before : Input) (piece line piece' line' out : List ℕ) (g : Gathered) (r : Turn) : Type 0 where
  -- how the input stands at its next line
  pub input : Input
  pub read : NextLine before piece line piece' line' input
  -- what was answered so far, and whether it could be written
  pub answered : Out
  pub gathers : gathered out answered ≡ g
  pub turn : r ≡ turn_of input answered r.out.failed
  pub inside : r.len ≤ length line
  pub fewer : r.left ≤ before.left - 1
