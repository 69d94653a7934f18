-- Words gathered in a lent buffer until they are written out. Assumes nothing.
use Rattle.std.specs.Prelude.{ℕ, ◌+◌, ◌-◌, min, Bool, true, false, cond, ◌≡◌, List, [], ◌∷◌, ◌++◌, leb, length}
use Rattle.std.proofs.lemmas.List.Edits.{sets}
use Rattle.text.specs.Quoted.{bytes}
use Rattle.output.specs.declared.Out.{Out}

-- the lent buffer, how many bytes of it are taken, and whether the line has a word
pub record Gathered : Type 0 where
  pub buffer : List ℕ
  pub at : ℕ
  pub begun : Bool

abbrev pub gathered : List ℕ → Out → Gathered
gathered buffer o = record { buffer = buffer; at = o.at; begun = o.begun }

-- where the next bytes go: behind those that are taken, or to the front where not so many are free and all is written out
unfoldable pub room : ℕ → List ℕ → ℕ → ℕ
room more buffer at = cond (leb (at + more) (length buffer)) at 0

-- a text stored where so many bytes are free. What has no room is not stored
unfoldable pub stored : ℕ → Gathered → List ℕ → Bool → Gathered
stored more g text begun =
    let a = room more g.buffer g.at in
    record { buffer = sets g.buffer a text; at = a + min (length text) (length g.buffer - a); begun = begun }

-- a space, where the line has a word
abbrev pub space_of : Bool → List ℕ
space_of begun = cond begun (bytes " ") []

-- bytes more of a word, each stored by itself
abbrev pub joins : Gathered → List ℕ → Gathered
joins g [] = g
joins g (b ∷ bs) = joins (stored 32 g (b ∷ []) true) bs

-- a word more, and the space before it: in one piece where it takes at most 31 bytes with the space, else byte by byte behind the space
unfoldable pub put : Gathered → List ℕ → Gathered
put g word =
    cond (leb (length word) 30) (stored 32 g (space_of g.begun ++ word) true)
    (joins (stored 32 g (space_of g.begun) true) word)

-- words, the first first
abbrev pub puts : Gathered → List (List ℕ) → Gathered
puts g [] = g
puts g (w ∷ ws) = puts (put g w) ws

-- the end of a line, if it has a word
unfoldable pub ended : Gathered → Gathered
ended g = cond g.begun (stored 32 g (bytes "\n") false) g

-- all that is gathered is written out
abbrev pub written_out : Gathered → Gathered
written_out g = record { buffer = g.buffer; at = 0; begun = g.begun }

-- these bytes were joined to the word before them
pub record Joined (before : List ℕ) (o : Out) (text after : List ℕ) (r : Out) : Type 0 where
  pub same : gathered after r ≡ joins (gathered before o) text

-- these words were put behind what was gathered
pub record Gathers (before : List ℕ) (o : Out) (words : List (List ℕ)) (after : List ℕ) (r : Out) : Type 0 where
  pub same : gathered after r ≡ puts (gathered before o) words
