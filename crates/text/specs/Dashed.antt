-- Three numbers with a dash (45) between them, and nothing after them. Assumes nothing.
use Rattle.std.specs.Prelude.{ℕ, cond, List, [], ◌∷◌, leb, eqb, None, Option, Some}
use Rattle.text.specs.Digits.{is_end, Got, got, no, both, behind, wide, decimal}

-- a number up to 65,535 without leading zeros (width 0), or of so many digits, four at most
abbrev pub number : ℕ → List ℕ → Got ℕ
number w s = cond (eqb w 0) (decimal 65535 s) (cond (leb w 4) (wide w s) no)

abbrev pub dash : List ℕ
dash = 45 ∷ []

-- the first of one width, the others of another
abbrev pub numbers : ℕ → ℕ → List ℕ → Got (ℕ × (ℕ × ℕ))
numbers first others = both (number first) (both (behind dash (number others)) (behind dash (number others)))

-- and nothing after them
abbrev pub ended : Got (ℕ × (ℕ × ℕ)) → Option (ℕ × ℕ × ℕ)
ended (got x t) = cond (is_end t) (Some (x.0, x.1.0, x.1.1)) None
ended no = None
