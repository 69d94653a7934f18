-- One line of an input that comes in pieces, kept in a lent buffer. Assumes nothing.
use Rattle.std.specs.Prelude.{ℕ, ◌≤◌, ◌≡◌, Bool, true, false, cond, List, [], ◌∷◌, ◌++◌, length, take, drop, ltb, eqb, None, Option, Some}
use Rattle.text.specs.declared.keeping.Filled.{Filled}
use Rattle.text.specs.declared.keeping.Filled.TheVariants.{Feed, Open}

-- the line so far, or that it is too long to be kept
pub data Current : Type 0 where
  short : List ℕ → Current
  long : Current

-- one byte more, where there is room for that many
abbrev pub more : ℕ → Current → ℕ → Current
more room long b = long
more room (short s) b = cond (ltb (length s) room) (short (s ++ (b ∷ []))) long

-- the line after some more input: whole at its line feed (10), with the input after that, or still going at the end of the input
pub data Line : Type 0 where
  whole : Current → List ℕ → Line
  going : Current → Line

abbrev pub line : ℕ → Current → List ℕ → Line
line room c [] = going c
line room c (b ∷ s) = cond (eqb b 10) (whole c s) (line room (more room c b) s)

-- what a buffer says: so many bytes of the line, or that it is too long
abbrev pub current : List ℕ → ℕ → Bool → Current
current buffer kept true = long
current buffer kept false = short (take kept buffer)

abbrev pub holds : List ℕ → Option ℕ → Current
holds buffer (Some kept) = short (take kept buffer)
holds buffer None = long

-- how many bytes are kept, none of a line that is too long
abbrev pub kept_of : Option ℕ → ℕ
kept_of (Some kept) = kept
kept_of None = 0

abbrev pub filled_says : List ℕ → List ℕ → Filled → Line
filled_says buffer piece (Feed held next) = whole (holds buffer held) (drop next piece)
filled_says buffer piece (Open held) = going (holds buffer held)

abbrev pub held_of : Filled → Option ℕ
held_of (Feed held next) = held
held_of (Open held) = held

-- the place in the piece after the line feed
abbrev pub next_of : Filled → ℕ
next_of (Feed held next) = next
next_of (Open held) = 0

-- one byte more is in the buffer, and no more bytes are kept than it has
pub record Pushed (buffer : List ℕ) (held : Option ℕ) (b : ℕ) (after : List ℕ) (r : Option ℕ) : Type 0 where
  pub same : holds after r ≡ more (length buffer) (holds buffer held) b
  pub inside : kept_of held ≤ length buffer → kept_of r ≤ length buffer

-- the line goes on with the piece from a place on
pub record Fills (piece : List ℕ) (from : ℕ) (buffer : List ℕ) (held : Option ℕ) (after : List ℕ) (r : Filled) : Type 0 where
  pub same : filled_says after piece r ≡ line (length buffer) (holds buffer held) (drop from piece)
  pub inside : kept_of held ≤ length buffer → kept_of (held_of r) ≤ length buffer
  pub next : next_of r ≤ length piece
