-- The line so far goes on with what is left of the piece.
use Prim.Native.Nat.{◌≤◌}
use mathlib.Core.Path.{◌≡◌}
use lib.ListN.{length, drop}
use Rattle.text.specs.Kept.{holds, kept_of, line}
use Rattle.text.proofs.keeping.fill.Given as goal

abbrev pub invariant-loop-i : goal.invariant-loop-i
invariant-loop-i l = (kept_of l.initial.held ≤ length l.initial.buffer → kept_of l.held ≤ length l.initial.buffer) × (line (length l.initial.buffer) (holds l.buffer l.held) (drop l.i l.piece) ≡ line (length l.initial.buffer) (holds l.initial.buffer l.initial.held) (drop l.from l.piece))
