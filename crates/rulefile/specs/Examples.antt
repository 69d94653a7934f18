-- Rule files of a few lines, to be followed by eye. Assumes nothing.
use Rattle.std.specs.Prelude.{ℕ, ◌≡◌, true, false, List, [], ◌∷◌}
use Prim.Native.String.{String}
use Rattle.text.specs.Quoted.{bytes}
use Rattle.keyed.specs.Forms.{told_line}
use Rattle.rulefile.specs.Files.{file_lines}

-- a text is in form and has these numbers
abbrev pub Reads : String → List ℕ → Type 0
Reads s ns = file_lines (bytes s) ≡ record { numbers = ns; whole = true }

-- a text is out of form at this line
abbrev pub Fails : String → ℕ → Type 0
Fails s k = ((file_lines (bytes s)).whole ≡ false) × (told_line (file_lines (bytes s)) ≡ k)

pub record Examples : Type 0 where
  -- no byte, no rule
  pub empty : Reads "" []
  pub one_rule : Reads "kind=1\nyear=0\nmonth=1\nday=1\nhalf=0\nkala=0\nname=65535\nholiday=1\n" (1 ∷ 0 ∷ 1 ∷ 1 ∷ 0 ∷ 0 ∷ 65535 ∷ 1 ∷ [])
  -- a number that is too large, and one with a leading zero
  pub too_large : Fails "kind=1\nyear=65536\n" 2
  pub leading_zero : Fails "kind=01\n" 1
  -- keys in another order
  pub other_order : Fails "kind=1\nmonth=1\nyear=0\n" 2
  -- a last line without its line feed, at its own number; a text that ends inside a rule, at the line after the last
  pub no_feed : Fails "kind=1\nyear=0" 2
  pub inside : Fails "kind=1\nyear=0\n" 3
  -- a line too many
  pub empty_line : Fails "\n" 1
