-- One line of an input in pieces: each byte, and the line that comes in. Assumes nothing.
use Prim.Native.Nat.{ℕ, ◌+◌, ◌≤◌, ◌<◌}
use mathlib.Core.Path.{◌≡◌, refl, ap, ◌∙◌}
use mathlib.Core.Bool.{Bool, true, false, cond}
use mathlib.Core.List.{List, [], ◌∷◌, ◌++◌, append_assoc, append-nil}
use native.Mathlib.Numerals.{add-one}
use native.Mathlib.Omega.{arith}
use borrow.Author.Tests.{ltb-true, ltb-false, lt-ltb, le-ltb, le-leb, lt-leb, eq-eqb, ne_eqb}
use lib.Dec.{ltb, leb, eqb}
use lib.ListN.{length, take, drop, set, get_or, length-append}
use lib.Seq.{take-suc-set, take_all, length-take-le}
use Rattle.text.specs.Kept.{Current, short, long, more, Line, whole, going, line}
use Rattle.text.proofs.Texts.{cut, over}

-- ---- one byte more in the buffer

pub push_short : (buffer : List ℕ) (kept b : ℕ) → kept < length buffer
    → short (take (kept + 1) (set buffer kept b)) ≡ more (length buffer) (short (take kept buffer)) b
push_short buffer kept b h =
    let m : kept ≤ length buffer = omega arith in
    let l = length-take-le kept buffer m in
    let t : ltb (length (take kept buffer)) (length buffer) ≡ true = lt-ltb (length (take kept buffer)) (length buffer) (omega arith) in
    rw (t, add-one, take-suc-set buffer kept b h)

pub push_full : (buffer : List ℕ) (kept b : ℕ) → length buffer ≤ kept → long ≡ more (length buffer) (short (take kept buffer)) b
push_full buffer kept b h = rw (take_all kept buffer h, le-ltb (length buffer) (length buffer) (omega arith))

-- ---- the loop over a piece

module _ (room : ℕ) (c : Current) (s : List ℕ) (i : ℕ) where
  pub line_over : length s ≤ i → going c ≡ line room c (drop i s)
  line_over h = rw (over s i h)

  pub line_feed : i < length s → get_or s i 0 ≡ 10 → whole c (drop (i + 1) s) ≡ line room c (drop i s)
  line_feed h e = rw (cut s i h, eq-eqb (get_or s i 0) 10 e)

  pub line_turn : i < length s → (get_or s i 0 ≡ 10 → ⊥) → line room (more room c (get_or s i 0)) (drop (i + 1) s) ≡ line room c (drop i s)
  line_turn h n = rw (cut s i h, ne_eqb (get_or s i 0) 10 n)

-- ---- what comes in

-- a line that ends goes no further, and one that is open goes on with the next piece
pub on : ℕ → Line → List ℕ → Line
on room (whole c rest) t = whole c (rest ++ t)
on room (going c) t = line room c t

-- where the input is cut into pieces makes no difference
pub line_pieces_law : (room : ℕ) (c : Current) (s t : List ℕ) → on room (line room c s) t ≡ line room c (s ++ t)
unfolding on
line_pieces_law room c [] t = refl
line_pieces_law room c (b ∷ s) t = go (eqb b 10) (line_pieces_law room (more room c b) s t)
  where
    go : (f : Bool) → on room (line room (more room c b) s) t ≡ line room (more room c b) (s ++ t)
        → on room (cond f (whole c s) (line room (more room c b) s)) t ≡ cond f (whole c (s ++ t)) (line room (more room c b) (s ++ t))
    go true ih = refl
    go false ih = ih

-- no byte of a text is a line feed
pub NoFeed : List ℕ → Type 0
NoFeed [] = Unit {0}
NoFeed (b ∷ s) = (b ≡ 10 → ⊥) × NoFeed s

-- a line that came in, as it is kept
abbrev pub comes : ℕ → List ℕ → Current
comes room s = cond (leb (length s) room) (short s) long

plain : (room : ℕ) (c : Current) (b : ℕ) (s : List ℕ) → (b ≡ 10 → ⊥) → line room c (b ∷ s) ≡ line room (more room c b) s
plain room c b s n = rw (ne_eqb b 10 n)

long_stays : (room : ℕ) (s u : List ℕ) → NoFeed s → line room long (s ++ u) ≡ line room long u
unfolding NoFeed
long_stays room [] u n = refl
long_stays room (b ∷ s) u n = plain room long b (s ++ u) n.0 ∙ long_stays room s u n.1

-- what stands before a line feed, or before the end of the input, is kept whole or is longer than the room
pub line_kept : (room : ℕ) (t s u : List ℕ) → NoFeed s → length t ≤ room → line room (short t) (s ++ u) ≡ line room (comes room (t ++ s)) u
unfolding NoFeed
line_kept room t [] u n h = rw (append-nil t, le-leb (length t) room h)
line_kept room t (b ∷ s) u n h = plain room (short t) b (s ++ u) n.0 ∙ go (ltb (length t) room) refl (line_kept room (t ++ (b ∷ [])) s u n.1)
  where
    go : (f : Bool) → ltb (length t) room ≡ f
        → (length (t ++ (b ∷ [])) ≤ room → line room (short (t ++ (b ∷ []))) (s ++ u) ≡ line room (comes room ((t ++ (b ∷ [])) ++ s)) u)
        → line room (cond f (short (t ++ (b ∷ []))) long) (s ++ u) ≡ line room (comes room (t ++ (b ∷ s))) u
    go true f ih =
        ih (omega (arith, ltb-true (length t) room f, length-append t (b ∷ [])))
        ∙ ap (λ (x : List ℕ). line room (comes room x) u) (append_assoc t (b ∷ []) s)
    go false f ih =
        let l : leb (length (t ++ (b ∷ s))) room ≡ false =
        lt-leb (length (t ++ (b ∷ s))) room (omega (arith, ltb-false (length t) room f, length-append t (b ∷ s))) in
        rw l (long_stays room s u n.1)
