-- What the inner functions promise of places in a file. Assumes nothing.
use Rattle.std.specs.Prelude.{ℕ, ◌-◌, ◌≤◌, ◌≡◌, List, length, take, drop, None, Option, Some}
use Rattle.naming.specs.Names.{lines_of, text_of, text_in}

-- the text of a line from a place of it on
abbrev pub begin_says : List ℕ → Option ℕ → Option (List ℕ)
begin_says s (Some k) = Some (drop k s)
begin_says s None = None

abbrev pub BeginInside : List ℕ → Option ℕ → Type 0
BeginInside s (Some k) = k ≤ length s
BeginInside s None = Unit {0}

-- the place is that of the text where the line has the number
pub record Begins (s : List ℕ) (number : ℕ) (r : Option ℕ) : Type 0 where
  pub same : begin_says s r ≡ text_of number s None
  pub inside : BeginInside s r

-- the text between two places of the file
abbrev pub found_says : List ℕ → Option (ℕ × ℕ) → Option (List ℕ)
found_says s (Some (from, to)) = Some (take (to - from) (drop from s))
found_says s None = None

abbrev pub FoundInside : List ℕ → Option (ℕ × ℕ) → Type 0
FoundInside s (Some (from, to)) = (from ≤ to) × (to ≤ length s)
FoundInside s None = Unit {0}

-- the places are those of the text in the first line with the number
pub record Finds (s : List ℕ) (number : ℕ) (r : Option (ℕ × ℕ)) : Type 0 where
  pub same : found_says s r ≡ text_in number (lines_of s)
  pub inside : FoundInside s r
