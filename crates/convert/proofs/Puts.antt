-- A number that is written, a reply that is gathered, and a turn. Assumes nothing.
use Prim.Native.Nat.{ℕ, zero, suc}
use mathlib.Core.Path.{◌≡◌, refl}
use mathlib.Core.Bool.{false}
use mathlib.Core.List.{List}
use lib.ListN.{take}
use Rattle.text.specs.Digits.{run, digits}
use Rattle.text.specs.Written.{Wrote}
use Rattle.output.specs.declared.Out.{Out}
use Rattle.output.specs.Gathered.{Gathered, gathered, room, ended}
use Rattle.output.proofs.Gathering.{stored_there}
use Rattle.convert.specs.Lines.{number_text}
use Rattle.lines.specs.Lines.{waiting, has_feed}
use Rattle.asked.specs.declared.input.Turn.{Turn}
use Rattle.asked.specs.Turns.{input_of, heard, TurnAfter}
use Rattle.asked.specs.Runs.{TurnDone}
use Rattle.convert.specs.Replies.{reply_to, gather_reply, converting}

module _ {l : List ℕ} {i : ℕ} {m : List ℕ} {p : ℕ} (w n : ℕ) where
  pub fewest_put : w ≡ 0 → Wrote l i (digits n) m p → Wrote l i (number_text w n) m p
  fewest_put e a = rw e a

  pub wide_put : (w ≡ 0 → ⊥) → Wrote l i (run 10 w n) m p → Wrote l i (number_text w n) m p
  wide_put z a = rw (same w z) a
    where
      same : (w : ℕ) → (w ≡ 0 → ⊥) → number_text w n ≡ run 10 w n
      same zero z = absurd (z refl)
      same (suc k) z = refl

-- a reply that is written where there is room for 80 bytes
pub replied : (o : Out) (s : List ℕ) {l m : List ℕ} {at next : ℕ} → at ≡ room 80 l o.at → Wrote l at (reply_to s) m next
    → record { buffer = m; at = next; begun = false } ≡ gather_reply (gathered l o) s
unfolding gather_reply
replied o s {l} {m} {next = next} e w = stored_there 80 l o (reply_to s) m next false (rw e at w)

-- the reply is gathered, and the next line is read
pub turn_done : {t r : Turn} {g : Gathered} {piece line out piece' line' out' : List ℕ} → g ≡ gather_reply (gathered out t.out) (take t.len line)
    → TurnAfter (input_of t) piece line piece' line' out' (heard (has_feed (waiting piece (input_of t))) (ended g)) r
    → TurnDone converting t tt piece line out tt piece' line' out' r
turn_done e n = record { holds = refl; turn = rw e at n }
