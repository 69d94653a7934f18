-- Yes or no, and why, as one line. Assumes nothing.
use Rattle.std.specs.Prelude.{ℕ, List, ◌++◌, None, Option, Some}
use Rattle.text.specs.Quoted.{bytes}
use Rattle.wall.specs.Names.{name_text}
use Rattle.gate.specs.declared.reasons.Reason.{Reason}
use Rattle.gate.specs.declared.reasons.Reason.TheVariants.{Saturday, Festival}

-- yes (Laxmi Puja)
abbrev pub festival_line : List ℕ → ℕ → List ℕ
festival_line names n = bytes "yes (" ++ (name_text n names ++ bytes ")\n")

abbrev pub line_of : List ℕ → Option Reason → List ℕ
line_of names None = bytes "no\n"
line_of names (Some Saturday) = bytes "yes (Saturday)\n"
line_of names (Some (Festival n)) = festival_line names n
