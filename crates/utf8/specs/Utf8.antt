-- UTF-8 as RFC 3629 has it, as a test of bytes: no overlong form, no surrogate, nothing above U+10FFFF. Assumes nothing.
use Rattle.std.specs.Prelude.{ℕ, zero, suc, Bool, true, false, cond, ◌&&◌, List, [], ◌∷◌, leb, eqb, None, Option, Some}

-- how many bytes follow the first byte of a character, and 4 where none begins with it
unfoldable pub follow : ℕ → ℕ
follow b =
    cond (leb b 127) 0 (cond (leb b 193) 4 (cond (leb b 223) 1 (cond (leb b 239) 2 (cond (leb b 244) 3 4))))

-- the same, where one begins with it
abbrev pub followed : ℕ → Option ℕ
followed b = cond (leb (follow b) 3) (Some (follow b)) None

-- the least and the greatest byte that may follow it
unfoldable pub low : ℕ → ℕ
low b = cond (eqb b 224) 160 (cond (eqb b 240) 144 128)

unfoldable pub high : ℕ → ℕ
high b = cond (eqb b 237) 159 (cond (eqb b 244) 143 191)

-- so many bytes of a character are to come, the first of them from `least` to `most`, and then whole characters to the end
abbrev pub comes : ℕ → ℕ → ℕ → List ℕ → Bool
comes zero least most [] = true
comes (suc k) least most [] = false
comes zero least most (b ∷ s) = cond (leb (follow b) 3) (comes (follow b) (low b) (high b) s) false
comes (suc k) least most (b ∷ s) = cond (leb least b && leb b most) (comes k 128 191 s) false

-- whole characters to the end
abbrev pub utf8 : List ℕ → Bool
utf8 s = comes 0 128 191 s
