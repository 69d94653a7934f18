-- The lines of an input, told one after another: they are those of the bytes that came, none lost and none twice. Assumes nothing.
use Prim.Native.Nat.{ℕ}
use mathlib.Core.Path.{◌≡◌, refl, sym, ap, ◌∙◌}
use mathlib.Core.Bool.{Bool, true, false, cond}
use mathlib.Core.List.{List, [], ◌∷◌, ◌++◌, append_assoc, append-nil}
use native.Mathlib.Omega.{arith}
use lib.Dec.{eqb}
use lib.ListN.{length, take}
use lib.Seq.{take_at}
use Rattle.text.specs.Kept.{Current, short, long, more, whole, going, line}
use Rattle.lines.specs.declared.Input.{Input}
use Rattle.lines.specs.Lines.{started, ended, waiting, line_in, Next, fed, last, over, unread, NextLine, last_line, lines_from, lines_of}
use Rattle.lines.proofs.Pieces.{front_none}

-- ---- the first line of some bytes

-- a line that came to its line feed, and the lines behind it, whatever comes more
lines_fed : (room : ℕ) (c l : Current) (s w t : List ℕ) → line room c s ≡ whole l w → lines_from room c (s ++ t) ≡ l ∷ lines_of room (w ++ t)
lines_fed room c l [] w t e = absurd (let z : ◌≡◌ {A = ℕ} 0 1 = cc in let bad : ⊥ = omega arith in bad)
lines_fed room c l (b ∷ s) w t e = go (eqb b 10) (lines_fed room (more room c b) l s w t) e
  where
    go : (f : Bool) → (line room (more room c b) s ≡ whole l w → lines_from room (more room c b) (s ++ t) ≡ l ∷ lines_of room (w ++ t))
        → cond f (whole c s) (line room (more room c b) s) ≡ whole l w
        → cond f (c ∷ lines_from room (short []) (s ++ t)) (lines_from room (more room c b) (s ++ t)) ≡ l ∷ lines_of room (w ++ t)
    go true ih e = let p : c ≡ l = cc in let q : s ≡ w = cc in rw (p, q)
    go false ih e = ih e

-- a line that is open at the end is the last, if it has a byte
lines_open : (room : ℕ) (c d : Current) (s : List ℕ) → line room c s ≡ going d → lines_from room c s ≡ last_line d
lines_open room c d [] e = let p : c ≡ d = cc in rw p
lines_open room c d (b ∷ s) e = go (eqb b 10) (lines_open room (more room c b) d s) e
  where
    go : (f : Bool) → (line room (more room c b) s ≡ going d → lines_from room (more room c b) s ≡ last_line d)
        → cond f (whole c s) (line room (more room c b) s) ≡ going d
        → cond f (c ∷ lines_from room (short []) s) (lines_from room (more room c b) s) ≡ last_line d
    go true ih e = absurd (let z : ◌≡◌ {A = ℕ} 0 1 = cc in let bad : ⊥ = omega arith in bad)
    go false ih e = ih e

last_some : (d : Current) → (d ≡ short [] → ⊥) → last_line d ≡ d ∷ []
last_some (short []) n = absurd (n refl)
last_some (short (b ∷ s)) n = refl
last_some long n = refl

-- ---- lines told

-- whatever comes more, the lines are those that were told and those of the bytes that wait
pub record Told (room : ℕ) (bytes : List ℕ) (lines : List Current) (rest : List ℕ) : Type 0 where
  pub same : (t : List ℕ) → lines_of room (bytes ++ t) ≡ lines ++ lines_of room (rest ++ t)

module _ {room : ℕ} {bytes : List ℕ} {lines : List Current} {rest : List ℕ} (told : Told room bytes lines rest) (came : List ℕ) where
  told_fed : (l : Current) (w : List ℕ) → line room (short []) (rest ++ came) ≡ whole l w → Told room (bytes ++ came) (lines ++ (l ∷ [])) w
  told_fed l w e = record {
    same = λ t.
        ap (lines_of room) (append_assoc bytes came t)
        ∙ (told.same (came ++ t)
        ∙ (ap (λ (x : List ℕ). lines ++ lines_of room x) (sym (append_assoc rest came t))
        ∙ (ap (λ (x : List Current). lines ++ x) (lines_fed room (short []) l (rest ++ came) w t e)
        ∙ sym (append_assoc lines (l ∷ []) (lines_of room (w ++ t))))));
  }

  told_open : (d : Current) → line room (short []) (rest ++ came) ≡ going d → lines_of room (bytes ++ came) ≡ lines ++ last_line d
  told_open d e = told.same came ∙ ap (λ (x : List Current). lines ++ x) (lines_open room (short []) d (rest ++ came) e)

-- ---- where an input stands

-- these lines of these bytes were told: the input goes on with those that wait, or it is over, and these are all
pub data Stand (room : ℕ) (bytes : List ℕ) (lines : List Current) (ends : Bool) (rest : List ℕ) : Type 0 where
  awaits : ends ≡ false → Told room bytes lines rest → Stand room bytes lines ends rest
  closed : ends ≡ true → lines_of room bytes ≡ lines → Stand room bytes lines ends rest

pub stand_first : (room steps : ℕ) (piece : List ℕ) → Stand room [] [] (started steps).ends (waiting piece (started steps))
stand_first room steps piece = awaits refl (record { same = λ t. rw (front_none piece) })

-- the lines told are the first of all
pub record Begins (lines all : List Current) : Type 0 where
  pub others : List Current
  pub same : all ≡ lines ++ others

pub stand_begins : {room : ℕ} {bytes : List ℕ} {lines : List Current} {ends : Bool} {rest : List ℕ} → Stand room bytes lines ends rest → Begins lines (lines_of room bytes)
stand_begins {room} {bytes} {lines} {rest = rest} (awaits e t) = record { others = lines_of room (rest ++ []); same = rw (append-nil bytes) at (t.same []) }
stand_begins {lines = lines} (closed e t) = record { others = []; same = t ∙ sym (append-nil lines) }

pub begins_front : {lines all : List Current} → Begins lines all → lines ≡ take (length lines) all
begins_front {lines} b = sym (ap (take (length lines)) b.same ∙ take_at lines b.others (length lines) refl)

-- an input after its next line, where these lines were told before
pub data Later (room : ℕ) (lines : List Current) (piece buffer : List ℕ) (r : Input) : Type 0 where
  -- one line more
  line_more : (bytes : List ℕ) → Stand room bytes (lines ++ (line_in buffer r ∷ [])) r.ends (waiting piece r) → r.failed ≡ eqb r.left 0 → Later room lines piece buffer r
  -- these were all
  no_more : (bytes : List ℕ) → lines_of room bytes ≡ lines → r ≡ ended false → Later room lines piece buffer r
  -- it cannot be read on
  cut_off : r ≡ ended true → Later room lines piece buffer r

pub stand_next : {input r : Input} {bytes piece buffer piece' buffer' : List ℕ} {lines : List Current}
    → Stand (length buffer) bytes lines input.ends (waiting piece input) → NextLine input piece buffer piece' buffer' r → Later (length buffer) lines piece' buffer' r
stand_next {bytes = bytes} (closed e s) n = no_more bytes s (n.past e)
stand_next {input} {r} {bytes} {piece} {buffer} {piece'} {buffer'} {lines} (awaits e t) n = go (n.next e)
  where
    go : Next (line (length buffer) (short []) (waiting piece input ++ n.came)) piece' buffer' r → Later (length buffer) lines piece' buffer' r
    go (fed w o f) = line_more (bytes ++ n.came) (awaits o (told_fed t n.came (line_in buffer' r) (waiting piece' r) w)) f
    go (last w s o f) = line_more (bytes ++ n.came) (closed o (told_open t n.came (line_in buffer' r) w ∙ ap (λ (x : List Current). lines ++ x) (last_some (line_in buffer' r) s))) f
    go (over w z) = no_more (bytes ++ n.came) (told_open t n.came (short []) w ∙ append-nil lines) z
    go (unread z) = cut_off z
