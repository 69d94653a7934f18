-- The pieces of an input, one behind another, and the line that they make. Assumes nothing.
use Rattle.std.specs.Prelude.{None, Option, Some, is_none}
use Prim.Native.Nat.{ℕ, zero, suc, ◌-◌, ◌≤◌}
use mathlib.Core.Path.{◌≡◌, refl, sym, ap, ◌∙◌}
use mathlib.Core.Bool.{Bool, true, false, cond}
use mathlib.Core.List.{List, [], ◌∷◌, ◌++◌, append_assoc, append-nil}
use native.Mathlib.Omega.{arith}
use borrow.Author.Tests.{le-leb, ne_eqb}
use lib.Dec.{eqb}
use lib.ListN.{length, take, drop}
use lib.Seq.{length-take-le, drop-nil}
use Rattle.text.specs.Kept.{Current, short, more, current, holds, kept_of, whole, going, line, Fills}
use Rattle.text.specs.declared.keeping.Filled.TheVariants.{Feed, Open}
use Rattle.lines.specs.declared.Input.{Input}
use Rattle.lines.specs.Lines.{ended, given, last_of, front, waiting, handed, fed, last, over, unread, NextLine}

-- a line that is open after some bytes goes on with more of them
line_on : (room : ℕ) (c d : Current) (s t : List ℕ) → going d ≡ line room c s → line room d t ≡ line room c (s ++ t)
line_on room c d [] t e = let same : d ≡ c = cc in rw same
line_on room c d (b ∷ s) t e = go (eqb b 10) (line_on room (more room c b) d s t) e
  where
    go : (f : Bool) → (going d ≡ line room (more room c b) s → line room d t ≡ line room (more room c b) (s ++ t))
        → going d ≡ cond f (whole c s) (line room (more room c b) s)
        → line room d t ≡ cond f (whole c (s ++ t)) (line room (more room c b) (s ++ t))
    go true ih e = let z : ◌≡◌ {A = ℕ} 0 1 = cc in absurd (let bad : ⊥ = omega arith in bad)
    go false ih e = ih e

-- what is held, with the bytes that wait, is the line of the first bytes and of those that came
pub record Reads (room : ℕ) (first buffer : List ℕ) (held : Option ℕ) (rest : List ℕ) : Type 0 where
  pub came : List ℕ
  pub same : line room (holds buffer held) rest ≡ line room (short []) (first ++ came)
  pub inside : kept_of held ≤ room

pub reads_first : (room : ℕ) (first buffer : List ℕ) (held : Option ℕ) → held ≡ Some 0 → Reads room first buffer held first
reads_first room first buffer held e = rw e (record { came = []; same = rw (append-nil first); inside = omega arith })

-- ---- a held line as it is handed over

held_given : (buffer : List ℕ) (held : Option ℕ) → holds buffer held ≡ current buffer (kept_of held) (is_none held)
held_given buffer (Some kept) = refl
held_given buffer None = refl

pub front_none : (piece : List ℕ) → front piece 0 ≡ []
front_none piece = rw (le-leb 0 (length piece) (omega arith))

kept_some : (buffer : List ℕ) (kept : ℕ) → suc kept ≤ length buffer → short (take (suc kept) buffer) ≡ short [] → ⊥
kept_some buffer kept h e = let t : take (suc kept) buffer ≡ [] = cc in omega (arith, length-take-le (suc kept) buffer h, ap length t)

-- ---- the turns of the loop

-- no byte waits
pub fills_none : (from : ℕ) (buffer : List ℕ) (held : Option ℕ) → Fills [] from buffer held buffer (Open held)
fills_none from buffer held = record { same = rw (drop-nil {A = ℕ} from); inside = λ h. h; next = omega arith }

-- one piece more
pub reads_more : {room from : ℕ} {first buffer after p read : List ℕ} {held h : Option ℕ} → Reads room first buffer held (drop from p) → length buffer ≡ room
    → Fills p from buffer held after (Open h) → Reads room first after h read
reads_more {room} {first = first} {after = after} {read = read} {h = h} r l f = record {
  came = r.came ++ read;
  same = line_on room (short []) (holds after h) (first ++ r.came) read (rw l at f.same ∙ r.same) ∙ ap (line room (short [])) (append_assoc first r.came read);
  inside = rw l at (f.inside (rw l r.inside));
}

-- an input that goes on is not over
on_past : {ends : Bool} {r : Input} → ends ≡ false → ends ≡ true → r ≡ ended false
on_past g e = absurd (let z : ◌≡◌ {A = ℕ} 0 1 = cc in let bad : ⊥ = omega arith in bad)

-- a line too long is handed over empty
bytes_given : (buffer : List ℕ) (held : Option ℕ) → take (kept_of held) buffer ≡ handed (current buffer (kept_of held) (is_none held))
bytes_given buffer (Some kept) = refl
bytes_given buffer None = refl

module _ (input : Input) (piece₀ buffer₀ : List ℕ) (left : ℕ) (goes : input.ends ≡ false) (fewer : left ≤ input.left - 1) where
  -- the line feed came
  pub next_fed : (piece : List ℕ) (to : ℕ) {from next : ℕ} {buffer after : List ℕ} {held h : Option ℕ}
      → Reads (length buffer₀) (waiting piece₀ input) buffer held (drop from (front piece to)) → length buffer ≡ length buffer₀
      → Fills (front piece to) from buffer held after (Feed h next) → NextLine input piece₀ buffer₀ piece after (given h left false next to)
  next_fed piece to {next = next} {after = after} {h = h} r l f = record {
    came = r.came;
    next = λ g. fed (sym (rw l at f.same ∙ r.same) ∙ ap (λ (c : Current). whole c (drop next (front piece to))) (held_given after h)) refl refl;
    past = on_past goes;
    bytes = bytes_given after h;
    inside = rw l at (f.inside (rw l r.inside));
    fewer = fewer;
  }

  -- the input is over
  over_held : (piece came after : List ℕ) (held : Option ℕ) → kept_of held ≤ length buffer₀ → length after ≡ length buffer₀
      → line (length buffer₀) (short []) (waiting piece₀ input ++ came) ≡ going (holds after held)
      → NextLine input piece₀ buffer₀ piece after (last_of held left)
  over_held piece came after None h l e =
      record { came = came; next = λ g. last e (λ z. let bad : ◌≡◌ {A = ℕ} 0 1 = cc in omega arith) refl refl; past = on_past goes; bytes = refl; inside = omega arith; fewer = fewer }
  over_held piece came after (Some zero) h l e = record { came = came; next = λ g. over e refl; past = on_past goes; bytes = refl; inside = omega arith; fewer = omega arith }
  over_held piece came after (Some (suc kept)) h l e =
      let n : eqb (suc kept) 0 ≡ false = ne_eqb (suc kept) 0 (λ z. omega arith) in
      rw n (record { came = came; next = λ g. last e (kept_some after kept (omega arith)) refl refl; past = on_past goes; bytes = refl; inside = h; fewer = fewer })

  pub next_last : {from : ℕ} {piece buffer after p : List ℕ} {held h : Option ℕ}
      → Reads (length buffer₀) (waiting piece₀ input) buffer held (drop from p) → length buffer ≡ length buffer₀ → length after ≡ length buffer₀
      → Fills p from buffer held after (Open h) → NextLine input piece₀ buffer₀ piece after (last_of h left)
  next_last {piece = piece} {after = after} {h = h} r l k f =
      over_held piece r.came after h (rw l at (f.inside (rw l r.inside))) k (sym (rw l at f.same ∙ r.same))

-- a read failed, or the steps were used up
pub next_unread : {input : Input} {piece₀ buffer₀ piece after : List ℕ} → input.ends ≡ false → NextLine input piece₀ buffer₀ piece after (ended true)
next_unread goes = record { came = []; next = λ g. unread refl; past = on_past goes; bytes = refl; inside = omega arith; fewer = omega arith }

-- the input was over
pub next_past : {input : Input} {piece₀ buffer₀ piece after : List ℕ} → input.ends ≡ true → NextLine input piece₀ buffer₀ piece after (ended false)
next_past e = record {
  came = [];
  next = λ g. absurd (let z : ◌≡◌ {A = ℕ} 0 1 = cc in let bad : ⊥ = omega arith in bad);
  past = λ z. refl;
  bytes = refl;
  inside = omega arith;
  fewer = omega arith;
}
