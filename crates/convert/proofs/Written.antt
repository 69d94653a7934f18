-- The replies are handed over to be written whole, one behind the other, none lost and none twice. Assumes nothing.
use Prim.Native.Nat.{ℕ, ◌+◌, ◌-◌, ◌≤◌, min}
use mathlib.Core.Path.{◌≡◌, refl, sym, ap, ◌∙◌}
use mathlib.Core.Bool.{Bool, true, false, cond}
use mathlib.Core.List.{List, [], ◌∷◌, ◌++◌, append_assoc, append-nil}
use native.Mathlib.Omega.{arith}
use borrow.Author.Tests.{leb-true}
use lib.Dec.{leb}
use lib.ListN.{length, take, length-append}
use lib.Seq.{sets, sets-eq, length-sets, take_at, length-take-le}
use Rattle.lines.specs.Lines.{handed}
use Rattle.output.specs.Gathered.{Gathered, room, stored, ended}
use Rattle.asked.specs.Turns.{fresh, heard}
use Rattle.asked.specs.Runs.{Came, gathers_next, gathers_after}
use Rattle.convert.specs.Replies.{reply_to, gather_reply, converting}
use Rattle.convert.specs.Written.{Told, untold, told_bytes, write_unless, told_reply, told_after, replies}
use Rattle.convert.proofs.Short.{reply_short}

-- a buffer with room for a reply, and no more of it taken than it has
record Fits (g : Gathered) : Type 0 where
  pub space : 80 ≤ length g.buffer
  pub within : g.at ≤ length g.buffer

-- a text that has room is whole behind what was taken
whole_there : (l text : List ℕ) (a : ℕ) → a + length text ≤ length l → take (a + min (length text) (length l - a)) (sets l a text) ≡ take a l ++ text
whole_there l text a h =
    let n : a + min (length text) (length l - a) ≡ a + length text = omega arith in
    let k : length (take a l ++ text) ≡ a + length text = omega (arith, length-append (take a l) text, length-take-le a l (omega arith)) in
    rw (n, sets-eq text l a h) (take_at (take a l ++ text) _ (a + length text) k)

-- where a reply goes lies in the buffer
room_within : (l : List ℕ) (at : ℕ) → at ≤ length l → room 80 l at ≤ length l
unfolding room
room_within l at h = go (leb (at + 80) (length l))
  where
    go : (b : Bool) → cond b at 0 ≤ length l
    go true = h
    go false = omega arith

-- ---- a reply

module _ (x : Told) (s : List ℕ) (f : Fits x.gathered) where
  reply_told : told_bytes (told_reply x s) ≡ told_bytes x ++ reply_to s
  unfolding gather_reply stored room
  reply_told = go (leb (x.gathered.at + 80) (length x.gathered.buffer)) refl
    where
      go : (b : Bool) → leb (x.gathered.at + 80) (length x.gathered.buffer) ≡ b
          → (write_unless b x).written
          ++ take (cond b x.gathered.at 0 + min (length (reply_to s)) (length x.gathered.buffer - cond b x.gathered.at 0)) (sets x.gathered.buffer (cond b x.gathered.at 0) (reply_to s))
          ≡ told_bytes x ++ reply_to s
      go true e =
          let k = leb-true (x.gathered.at + 80) (length x.gathered.buffer) e in
          ap (λ (t : List ℕ). x.written ++ t) (whole_there x.gathered.buffer (reply_to s) x.gathered.at (omega (arith, reply_short s)))
          ∙ sym (append_assoc x.written (take x.gathered.at x.gathered.buffer) (reply_to s))
      go false e = ap (λ (t : List ℕ). told_bytes x ++ t) (whole_there x.gathered.buffer (reply_to s) 0 (omega (arith, f.space, reply_short s)))

  reply_fits : Fits (told_reply x s).gathered
  unfolding gather_reply stored
  reply_fits =
      let l = x.gathered.buffer in
      let a = room 80 l x.gathered.at in
      record {
        space = omega (arith, length-sets l a (reply_to s), f.space);
        within = omega (arith, length-sets l a (reply_to s), room_within l x.gathered.at f.within);
      }

-- ---- what is written out

write_told : (b : Bool) (x : Told) → told_bytes (write_unless b x) ≡ told_bytes x
write_told true x = refl
write_told false x = append-nil (told_bytes x)

write_fits : (b : Bool) (x : Told) → Fits x.gathered → Fits (write_unless b x).gathered
write_fits true x f = f
write_fits false x f = record { space = f.space; within = omega arith }

-- ---- all replies

told_after_law : (ls : List Came) (x : Told) → Fits x.gathered → told_bytes (told_after x ls) ≡ told_bytes x ++ replies ls
told_after_law [] x f = sym (append-nil (told_bytes x))
told_after_law (l ∷ ls) x f =
    let s = handed l.line in
    let y = told_reply x s in
    told_after_law ls (write_unless l.more y) (write_fits l.more y (reply_fits x s f))
    ∙ (ap (λ (t : List ℕ). t ++ replies ls) (write_told l.more y ∙ reply_told x s f) ∙ append_assoc (told_bytes x) (reply_to s) (replies ls))

-- a reply ends no line of words
gathers_next_law : (x : Told) (l : Came) → (write_unless l.more (told_reply x (handed l.line))).gathered ≡ gathers_next converting tt x.gathered l
unfolding gather_reply stored ended
gathers_next_law x l = go l.more
  where
    go : (b : Bool) → (write_unless b (told_reply x (handed l.line))).gathered ≡ heard b (gather_reply x.gathered (handed l.line))
    go true = refl
    go false = refl

gathers_after_law : (ls : List Came) (x : Told) → (told_after x ls).gathered ≡ gathers_after converting tt x.gathered ls
gathers_after_law [] x = refl
gathers_after_law (l ∷ ls) x =
    gathers_after_law ls (write_unless l.more (told_reply x (handed l.line))) ∙ ap (λ (g : Gathered). gathers_after converting tt g ls) (gathers_next_law x l)

-- what a run gathers, with what was written out before it, are the replies to its lines
pub all_replies : (out : List ℕ) (ls : List Came) → 80 ≤ length out
    → ((told_after (untold out) ls).gathered ≡ gathers_after converting tt (fresh out) ls) × (told_bytes (told_after (untold out) ls) ≡ replies ls)
all_replies out ls h = (gathers_after_law ls (untold out), told_after_law ls (untold out) (record { space = h; within = omega arith }))
