-- The lines of an input, answered turn by turn: those of the bytes that came, none lost and none twice. Assumes nothing.
use Prim.Native.Nat.{ℕ, ◌<◌}
use mathlib.Core.Path.{◌≡◌, refl, sym, ap, ◌∙◌}
use mathlib.Core.Bool.{Bool, true, false, cond, ◌||◌}
use mathlib.Core.List.{List, [], ◌∷◌, ◌++◌}
use native.Mathlib.Omega.{arith}
use lib.Dec.{eqb}
use lib.ListN.{length, take}
use Rattle.text.specs.Kept.{Current}
use Rattle.lines.specs.declared.Input.{Input}
use Rattle.lines.specs.Lines.{started, waiting, has_feed, line_in, handed}
use Rattle.lines.proofs.Told.{Stand, stand_first, stand_begins, begins_front, Later, line_more, no_more, cut_off, stand_next}
use Rattle.output.specs.Gathered.{Gathered, gathered, ended}
use Rattle.asked.specs.declared.input.Turn.{Turn}
use Rattle.asked.specs.Turns.{input_of, no_turn, heard, fresh, TurnAfter}
use Rattle.asked.specs.Runs.{Program, Came, lines_in, holds_next, gathers_next, holds_after, gathers_after, TurnDone, over, unread, unwritten, Ends, Run}
use Rattle.asked.proofs.Turns.{turn_buffer, turn_goes}

-- ---- one line more

lines_more : (ls : List Came) (l : Came) → lines_in (ls ++ (l ∷ [])) ≡ lines_in ls ++ (l.line ∷ [])
lines_more [] l = refl
lines_more (k ∷ ls) l = ap (λ (x : List Current). k.line ∷ x) (lines_more ls l)

module _ {S : Type 0} (p : Program S) where
  holds_more : (x : S) (ls : List Came) (l : Came) → holds_after p x (ls ++ (l ∷ [])) ≡ holds_next p (holds_after p x ls) l
  holds_more x [] l = refl
  holds_more x (k ∷ ls) l = holds_more (holds_next p x k) ls l

  gathers_more : (x : S) (g : Gathered) (ls : List Came) (l : Came) → gathers_after p x g (ls ++ (l ∷ [])) ≡ gathers_next p (holds_after p x ls) (gathers_after p x g ls) l
  gathers_more x g [] l = refl
  gathers_more x g (k ∷ ls) l = gathers_more (holds_next p x k) (gathers_next p x g k) ls l

-- ---- the turn after some lines

-- the line of a turn stands in its buffer, behind those that were answered
pub record At (room : ℕ) (lines : List Current) (piece line : List ℕ) (t : Turn) : Type 0 where
  pub this : Current
  pub text : take t.len line ≡ handed this
  pub bytes : List ℕ
  pub stand : Stand room bytes (lines ++ (this ∷ [])) t.ends (waiting piece (input_of t))

module _ {before : Input} {bytes piece line piece' line' out : List ℕ} {g : Gathered} {r : Turn} {lines : List Current}
    (s : Stand (length line) bytes lines before.ends (waiting piece before)) (t : TurnAfter before piece line piece' line' out g r) where
  turn_at : 0 < r.left → At (length line) lines piece' line' r
  turn_at h = go (t.answered.failed || eqb t.input.left 0) t.turn
    where
      here : 0 < t.input.left → Later (length line) lines piece' line' t.input
          → At (length line) lines piece' line' (record { left = t.input.left; len = t.input.len; ends = t.input.ends; from = t.input.from; to = t.input.to; out = t.answered })
      here k (line_more b st f) = record { this = line_in line' t.input; text = t.read.bytes; bytes = b; stand = st }
      here k (no_more b e z) = absurd (let bad : ⊥ = omega (arith, ap (λ (x : Input). x.left) z) in bad)
      here k (cut_off z) = absurd (let bad : ⊥ = omega (arith, ap (λ (x : Input). x.left) z) in bad)

      go : (f : Bool) → r ≡ cond f (no_turn (record { at = 0; begun = t.answered.begun; failed = r.out.failed }))
          (record { left = t.input.left; len = t.input.len; ends = t.input.ends; from = t.input.from; to = t.input.to; out = t.answered })
          → At (length line) lines piece' line' r
      go true e = absurd (let z : r.left ≡ 0 = ap (λ (x : Turn). x.left) e in let bad : ⊥ = omega arith in bad)
      go false e = rw e (here (rw (ap (λ (x : Turn). x.left) e) at h) (stand_next s t.read))

  -- or these were all, or the first of all
  turn_ends : Ends (length line) lines
  turn_ends = go t.answered.failed (stand_next s t.read)
    where
      go : (failed : Bool) → Later (length line) lines piece' line' t.input → Ends (length line) lines
      go true l = record { bytes = bytes; ending = unwritten (length lines); same = begins_front (stand_begins s) }
      go false (line_more b st f) = record { bytes = bytes; ending = unread (length lines); same = begins_front (stand_begins s) }
      go false (no_more b e z) = record { bytes = b; ending = over; same = sym e }
      go false (cut_off z) = record { bytes = bytes; ending = unread (length lines); same = begins_front (stand_begins s) }

-- ---- turns

-- where a run stands after some lines
pub record Runs {S : Type 0} (p : Program S) (room : ℕ) (first : S) (out₀ : List ℕ) (x : S) (piece line out : List ℕ) (t : Turn) : Type 0 where
  pub lines : List Came
  pub holds : x ≡ holds_after p first lines
  pub buffer : out ≡ (gathers_after p first (fresh out₀) lines).buffer
  pub gathers : 0 < t.left → gathered out t.out ≡ gathers_after p first (fresh out₀) lines
  pub goes : 0 < t.left → At room (lines_in lines) piece line t
  pub ends : Ends room (lines_in lines)

pub runs_first : {S : Type 0} (p : Program S) {room : ℕ} (first : S) (steps : ℕ) {piece line piece' line' out : List ℕ} {r : Turn} → length line ≡ room
    → TurnAfter (started steps) piece line piece' line' out (fresh out) r → Runs p room first out first piece' line' out r
runs_first p first steps {piece} {line} k t =
    let s = stand_first (length line) steps piece in
    rw (← k) (record { lines = []; holds = refl; buffer = refl; gathers = turn_goes t; goes = turn_at s t; ends = turn_ends s t })

module _ {S : Type 0} {p : Program S} {room : ℕ} {first : S} {out₀ : List ℕ} {x : S} {piece line out : List ℕ} {t : Turn}
    (a : Runs p room first out₀ x piece line out t) where
  pub runs_turn : 0 < t.left → length line ≡ room → {y : S} {piece' line' out' : List ℕ} {r : Turn} → TurnDone p t x piece line out y piece' line' out' r
      → Runs p room first out₀ y piece' line' out' r
  runs_turn h k {y} {piece'} {line'} {out'} {r} d =
      let here = a.goes h in
      let l : Came = record { line = here.this; more = has_feed (waiting piece (input_of t)) } in
      let ls : List Came = a.lines ++ (l ∷ []) in
      let z : S = holds_after p first a.lines in
      let all : heard l.more (ended (p.reply x (gathered out t.out) (take t.len line))) ≡ gathers_after p first (fresh out₀) ls =
      rw (here.text, a.gathers h, a.holds) (sym (gathers_more p first (fresh out₀) a.lines l)) in
      let s : Stand (length line) here.bytes (lines_in ls) (input_of t).ends (waiting piece (input_of t)) = rw (k, lines_more a.lines l) here.stand in
      record {
        lines = ls;
        holds = d.holds ∙ rw (here.text, a.holds) (sym (holds_more p first a.lines l));
        buffer = turn_buffer d.turn ∙ ap (λ (g : Gathered). g.buffer) all;
        gathers = λ q. turn_goes d.turn q ∙ all;
        goes = λ q. rw k at (turn_at s d.turn q);
        ends = rw k at (turn_ends s d.turn);
      }

  pub runs_all : {n : ℕ} → room ≡ n → Run p n first out₀ x out
  runs_all k = rw (← k) (record { heard = record { answered = a.lines; ends = a.ends }; holds = a.holds; gathers = a.buffer })
