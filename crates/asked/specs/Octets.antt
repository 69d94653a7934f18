-- The line `octets`: 1 to 64 bytes, two hexadecimal digits each. Assumes nothing.
use Rattle.std.specs.Prelude.{ℕ, zero, suc, cond, List, [], ◌∷◌, ◌++◌, ltb, length, get_or, replicate, None, Option, Some}
use Rattle.std.proofs.lemmas.List.Edits.{sets}
use Rattle.text.specs.Digits.{found, past, fixed, is_end}
use Rattle.text.specs.Quoted.{bytes}
use Rattle.asked.specs.declared.bytes.Octets.{Octets}
use Rattle.text.specs.declared.reading.Cursor.{Cursor}

-- a byte and those behind it
abbrev pub led : ℕ → Option (List ℕ) → Option (List ℕ)
led b (Some bs) = Some (b ∷ bs)
led b None = None

-- at most so many bytes, to the text's end
unfoldable pub octets : ℕ → List ℕ → Option (List ℕ)
octets zero s = cond (is_end s) (Some []) None
octets (suc most) s = cond (is_end s) (Some []) (found (fixed 16 2 0 s) (λ b t. led b (octets most t)) None)

-- no byte where there are none
abbrev pub known : Option (List ℕ) → List ℕ
known (Some bs) = bs
known None = []

-- the bytes of a line; a line with no byte is no line `octets`
unfoldable pub octets_in : List ℕ → List ℕ
octets_in s = found (past (bytes "octets ") s) (λ u t. known (octets 64 t)) []

-- ---- what the code's answers say

-- bytes at the front of 64 places, and 0 behind them
abbrev pub held : List ℕ → Octets
held bs = record { count = length bs; bytes = sets (replicate 64 0) 0 bs }

-- the byte at a place, and 0 past the places
abbrev pub octet_of : Octets → ℕ → ℕ
octet_of x i = cond (ltb i 64) (get_or x.bytes i 0) 0

-- the first n bytes, and all
abbrev pub first_of : Octets → ℕ → List ℕ
first_of x zero = []
first_of x (suc n) = first_of x n ++ (octet_of x n ∷ [])

abbrev pub bytes_of : Octets → List ℕ
bytes_of x = first_of x x.count

abbrev pub read_value : Option (ℕ × Cursor) → ℕ
read_value (Some (n, next)) = n
read_value None = 0
