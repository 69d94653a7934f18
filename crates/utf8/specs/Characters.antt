-- The characters of a text, whatever its bytes are: each begins with a byte that goes on with none before it. Assumes nothing.
use Rattle.std.specs.Prelude.{ℕ, suc, ◌-◌, Bool, cond, ◌&&◌, List, [], ◌∷◌, leb, eqb}

-- a byte that goes on with the character before it
unfoldable pub goes_on : ℕ → Bool
goes_on b = leb 128 b && leb b 191

-- how many characters begin in a text
abbrev pub characters : List ℕ → ℕ
characters [] = 0
characters (b ∷ s) = cond (goes_on b) (characters s) (suc (characters s))

-- the front of a text in which so many characters begin at most, cut before the next
abbrev pub front : ℕ → List ℕ → List ℕ
front most [] = []
front most (b ∷ s) = cond (goes_on b) (b ∷ front most s) (cond (eqb most 0) [] (b ∷ front (most - 1) s))
