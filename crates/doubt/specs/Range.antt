-- The page on the years that were asked, as it is printed. Assumes nothing.
use Rattle.std.specs.Prelude.{ℕ, ◌+◌, ◌-◌, List, [], ◌∷◌, ◌++◌}
use Rattle.text.specs.Digits.{digits}
use Rattle.text.specs.Quoted.{bytes}
use Rattle.output.specs.Gathered.{Gathered}
use Rattle.conversion.specs.Calendar.{Calendar}
use Rattle.rules.specs.declared.Rule.{Rule}
use Rattle.output.specs.Pieces.{Text, put_pieces}
use Rattle.doubtful.specs.Tallies.{count_pieces}
use Rattle.doubtful.specs.Years.{Sheet, years_page}

-- which years were asked
unfoldable pub range_pieces : ℕ → ℕ → List Text
range_pieces first last = bytes "BS " ∷ digits first ∷ bytes " to " ∷ digits last ∷ bytes ": " ∷ []

-- a sheet with the years that were asked and its counts behind what is written
abbrev pub summed : ℕ → ℕ → Sheet → Gathered
summed first last s = put_pieces s.written (range_pieces first last ++ count_pieces s.tally)

-- the years from the first to the last, which they are, and their counts
unfoldable pub asked_page : Calendar → List Rule → List ℕ → ℕ → ℕ → Sheet → Gathered
asked_page c rules names first last s = summed first last (years_page c rules names first (last + 1 - first) s)
