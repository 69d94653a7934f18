-- Control characters in a text. Assumes nothing.
use Rattle.std.specs.Prelude.{ℕ, Bool, true, false, cond, ◌&&◌, ◌||◌, List, ltb, eqb, None, Option, Some}
use Rattle.std.specs.List.{find}

-- a byte below 32, or 127; the flag lets a line feed (10) pass
unfoldable pub control : Bool → ℕ → Bool
control feed b = cond (feed && eqb b 10) false (ltb b 32 || eqb b 127)

-- the first of them in a text
abbrev pub first_control : Bool → List ℕ → Option ℕ
first_control feed s = find (λ b. control feed b) s

abbrev pub missing : Option ℕ → Bool
missing (Some b) = false
missing None = true

-- a text without one
abbrev pub clear : Bool → List ℕ → Bool
clear feed s = missing (first_control feed s)
