-- The turn of a line, or the end. Assumes nothing.
use Prim.Native.Nat.{ℕ, ◌≤◌, ◌<◌}
use mathlib.Core.Path.{◌≡◌, ap, ◌∙◌}
use mathlib.Core.Bool.{Bool, true, false, cond, ◌||◌}
use mathlib.Core.List.{List}
use native.Mathlib.Omega.{arith}
use borrow.Author.Tests.{eq-eqb, ne_eqb}
use lib.Dec.{eqb}
use Rattle.lines.specs.declared.Input.{Input}
use Rattle.lines.specs.Lines.{NextLine}
use Rattle.output.specs.declared.Out.{Out}
use Rattle.asked.specs.declared.input.Turn.{Turn}
use Rattle.output.specs.Gathered.{Gathered, gathered}
use Rattle.asked.specs.Turns.{no_turn, turn_of, heard, TurnAfter}

-- what was gathered, once it is written out
written : (at : ℕ) (begun failed b : Bool) → at ≡ 0 → begun ≡ b → ◌≡◌ {A = Out} (record { at = at; begun = begun; failed = failed }) (record { at = 0; begun = b; failed = failed })
written at begun failed b p q = rw (p, q)

module _ (input : Input) (o : Out) {r : Turn} where
  -- after a write that failed
  pub turn_failed : (x : Out) → o.failed ≡ true → x.at ≡ 0 → x.begun ≡ o.begun → r ≡ no_turn x → r ≡ turn_of input o r.out.failed
  turn_failed x f p q h = rw (h, f) (ap no_turn (written x.at x.begun x.failed o.begun p q))

  -- at the end of the input
  pub turn_over : (x : Out) → o.failed ≡ false → input.left ≡ 0 → x.at ≡ 0 → x.begun ≡ o.begun → r ≡ no_turn x → r ≡ turn_of input o r.out.failed
  turn_over x f z p q h = rw (h, f, eq-eqb input.left 0 z) (ap no_turn (written x.at x.begun x.failed o.begun p q))

-- at a line
pub turn_line : (input : Input) (o : Out) (failed : Bool) → o.failed ≡ false → (input.left ≡ 0 → ⊥)
    → record { left = input.left; len = input.len; ends = input.ends; from = input.from; to = input.to; out = o } ≡ turn_of input o failed
turn_line input o failed f n = rw (f, ne_eqb input.left 0 n)

-- a turn is no more than the input has
turn_within : (input : Input) (o : Out) (failed : Bool) {r : Turn} → r ≡ turn_of input o failed → (r.left ≤ input.left) × (r.len ≤ input.len)
turn_within input o failed {r} e = go (o.failed || eqb input.left 0) e
  where
    go : (f : Bool) → r ≡ cond f (no_turn (record { at = 0; begun = o.begun; failed = failed })) (record { left = input.left; len = input.len; ends = input.ends; from = input.from; to = input.to; out = o })
        → (r.left ≤ input.left) × (r.len ≤ input.len)
    go true h = (omega (arith, ap (λ (x : Turn). x.left) h), omega (arith, ap (λ (x : Turn). x.len) h))
    go false h = (omega (arith, ap (λ (x : Turn). x.left) h), omega (arith, ap (λ (x : Turn). x.len) h))

-- what was answered, written out where a read comes
pub told_after_law : (out : List ℕ) (o p : Out) (more feed : Bool) (g : Gathered) → gathered out p ≡ heard more (gathered out o) → more ≡ feed → gathered out o ≡ g → gathered out p ≡ heard feed g
told_after_law out o p more feed g w m e = w ∙ (ap (λ (b : Bool). heard b (gathered out o)) m ∙ ap (heard feed) e)

-- the turn after a line was read and what was answered is gathered
pub turn_after : {before input : Input} {piece line piece' line' : List ℕ} (out : List ℕ) {g : Gathered} (o : Out) {r : Turn} → NextLine before piece line piece' line' input → gathered out o ≡ g
    → r ≡ turn_of input o r.out.failed → TurnAfter before piece line piece' line' out g r
turn_after {input = input} out o {r} n g e =
    let w = turn_within input o r.out.failed e in
    record { input = input; read = n; answered = o; gathers = g; turn = e; inside = omega (arith, n.inside, w.1); fewer = omega (arith, n.fewer, w.0) }

module _ {before : Input} {piece line piece' line' out : List ℕ} {g : Gathered} {r : Turn} (t : TurnAfter before piece line piece' line' out g r) where
  -- the lent buffer holds what is gathered
  pub turn_buffer : out ≡ g.buffer
  turn_buffer = ap (λ (x : Gathered). x.buffer) t.gathers

  -- and while there are turns nothing of it is lost
  pub turn_goes : 0 < r.left → gathered out r.out ≡ g
  turn_goes h = go (t.answered.failed || eqb t.input.left 0) t.turn
    where
      go : (f : Bool) → r ≡ cond f (no_turn (record { at = 0; begun = t.answered.begun; failed = r.out.failed }))
          (record { left = t.input.left; len = t.input.len; ends = t.input.ends; from = t.input.from; to = t.input.to; out = t.answered }) → gathered out r.out ≡ g
      go true e = absurd (let z : r.left ≡ 0 = ap (λ (x : Turn). x.left) e in let bad : ⊥ = omega arith in bad)
      go false e = rw (ap (λ (x : Turn). x.out) e) t.gathers
