-- Characters as RFC 3629 (section 3) writes them in bytes. Assumes nothing.
use Rattle.std.specs.Prelude.{ℕ, ◌+◌, ◌/◌, ◌%◌, Bool, true, false, cond, ◌&&◌, not, List, [], ◌∷◌, ◌++◌, leb}

-- a character's number: at most 10FFFF, and no surrogate, D800 to DFFF
unfoldable pub scalar : ℕ → Bool
scalar c = leb c 1114111 && not (leb 55296 c && leb c 57343)

-- its last six bits in a byte that follows
abbrev pub tail : ℕ → ℕ
tail n = 128 + n % 64

-- the bytes of a character
unfoldable pub encode : ℕ → List ℕ
encode c =
    cond (leb c 127) (c ∷ [])
    (cond (leb c 2047) ((192 + c / 64) ∷ tail c ∷ [])
    (cond (leb c 65535) ((224 + c / 4096) ∷ tail (c / 64) ∷ tail c ∷ [])
    ((240 + c / 262144) ∷ tail (c / 4096) ∷ tail (c / 64) ∷ tail c ∷ [])))

-- the bytes of characters, one after the other
abbrev pub encoded : List ℕ → List ℕ
encoded [] = []
encoded (c ∷ cs) = encode c ++ encoded cs

-- each of these is a character's number
abbrev pub scalars : List ℕ → Bool
scalars [] = true
scalars (c ∷ cs) = cond (scalar c) (scalars cs) false
