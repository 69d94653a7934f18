-- Words gathered one after the other. Assumes nothing.
use Prim.Native.Nat.{ℕ, ◌+◌, ◌≤◌, ◌<◌}
use mathlib.Core.Bool.{Bool, true, false}
use mathlib.Core.Path.{◌≡◌, refl, sym, ap, ◌∙◌}
use mathlib.Core.List.{List, [], ◌∷◌, ◌++◌, map}
use native.Mathlib.Numerals.{add-one}
use borrow.Author.Tests.{le-leb, lt-leb}
use lib.ListN.{length, get_or, drop, drop_of_length-le}
use lib.Seq.{drop-cons}
use Rattle.text.specs.Quoted.{bytes}
use Rattle.text.specs.Written.{Wrote}
use Rattle.text.proofs.Writes as texts
use Rattle.output.specs.Gathered.{Gathered, gathered, room, stored, space_of, joins, put, puts, ended, Joined, Gathers}
use Rattle.output.specs.declared.Out.{Out}

-- words, and then others
pub puts_append : (g : Gathered) (xs ys : List (List ℕ)) → puts g (xs ++ ys) ≡ puts (puts g xs) ys
puts_append g [] ys = refl
puts_append g (x ∷ xs) ys = puts_append (put g x) xs ys

-- no word
pub gathers_none : (l : List ℕ) (o : Out) → Gathers l o [] l o
gathers_none l o = record { same = refl }

-- words, and then others
pub then : {l : List ℕ} {o : Out} {xs : List (List ℕ)} {m : List ℕ} {p : Out} {ys : List (List ℕ)} {n : List ℕ} {r : Out} → Gathers l o xs m p → Gathers m p ys n r → Gathers l o (xs ++ ys) n r
then {l} {o} {xs} {m} {p} {ys} a b = record { same = b.same ∙ ap (λ (g : Gathered). puts g ys) a.same ∙ sym (puts_append (gathered l o) xs ys) }

-- a text that is written where there is room for a word
pub stored_there : (more : ℕ) (l : List ℕ) (o : Out) (text m : List ℕ) (at : ℕ) (begun : Bool) → Wrote l (room more l o.at) text m at → record { buffer = m; at = at; begun = begun } ≡ stored more (gathered l o) text begun
unfolding stored
stored_there more l o text m at begun w = rw (w.stored, w.end)

-- where there is room, and where there is none
pub room_there : (more : ℕ) (l : List ℕ) (at : ℕ) → at + more ≤ length l → at ≡ room more l at
unfolding room
room_there more l at h = rw (le-leb (at + more) (length l) h)

pub room_front : (more : ℕ) (l : List ℕ) (at : ℕ) → length l < at + more → 0 ≡ room more l at
unfolding room
room_front more l at h = rw (lt-leb (at + more) (length l) h)

-- a space where one is due, and then a text of at most thirty bytes, is one word more
pub one_word : {l : List ℕ} {o : Out} {k : ℕ} {j : List ℕ} {text m : List ℕ} {r : Out} → length text ≤ 30 → Wrote l (room 32 l o.at) (space_of o.begun) j k → Wrote j k text m r.at → r.begun ≡ true → Gathers l o (text ∷ []) m r
unfolding put
one_word {l} {o} {k} {j} {text} {m} {r} h s w e = record { same = rw (e, le-leb (length text) 30 h) (stored_there 32 l o (space_of o.begun ++ text) m r.at true (texts.then s w)) }

-- and so are a longer text's bytes, joined to the space
pub long_word : {l : List ℕ} {o p : Out} {j : List ℕ} {text m : List ℕ} {r : Out} → 30 < length text → Wrote l (room 32 l o.at) (space_of o.begun) j p.at → p.begun ≡ true → Joined j p text m r → Gathers l o (text ∷ []) m r
unfolding put
long_word {l} {o} {p} {j} {text} {m} {r} h s e w =
    let g : gathered j p ≡ stored 32 (gathered l o) (space_of o.begun) true = rw e (stored_there 32 l o (space_of o.begun) j p.at true s) in
    record { same = rw (lt-leb (length text) 30 h) (w.same ∙ ap (λ (x : Gathered). joins x text) g) }

-- the end of a line that has a word, and of one that has none
pub ends : {l : List ℕ} {at : ℕ} {m : List ℕ} (o : Out) → o.begun ≡ true → Wrote l (room 32 l o.at) (bytes "\n") m at → record { buffer = m; at = at; begun = false } ≡ ended (gathered l o)
unfolding ended
ends {l} {at} {m} o b w = stored_there 32 l o (bytes "\n") m at false w ∙ rw b

pub ends_none : (l : List ℕ) (o : Out) → o.begun ≡ false → gathered l o ≡ ended (gathered l o)
unfolding ended
ends_none l o b = rw b

-- the words of a list put one at a time: those from a place on, behind what is gathered now, make the whole
pub record Left {A : Type 0} (f : A → List ℕ) (list : List A) (l₀ : List ℕ) (o₀ : Out) (i : ℕ) (l : List ℕ) (o : Out) : Type 0 where
  pub whole : puts (gathered l o) (map f (drop i list)) ≡ puts (gathered l₀ o₀) (map f list)

module _ {A : Type 0} {f : A → List ℕ} {list : List A} {l₀ : List ℕ} {o₀ : Out} where
  pub left_all : Left f list l₀ o₀ 0 l₀ o₀
  left_all = record { whole = refl }

  pub left_turn : {i : ℕ} {l : List ℕ} {o : Out} {m : List ℕ} {p : Out} (d : A) → Left f list l₀ o₀ i l o → i < length list → Gathers l o (f (get_or list i d) ∷ []) m p → Left f list l₀ o₀ (i + 1) m p
  left_turn {i} d a h w = record { whole = ap (λ (g : Gathered). puts g (map f (drop (i + 1) list))) w.same ∙ (rw add-one (rw (drop-cons list i d h) at a.whole)) }

  pub left_none : {i : ℕ} {l : List ℕ} {o : Out} → Left f list l₀ o₀ i l o → length list ≤ i → Gathers l₀ o₀ (map f list) l o
  left_none {i} a h = record { same = rw (drop_of_length-le list {i = i} h) at a.whole }
