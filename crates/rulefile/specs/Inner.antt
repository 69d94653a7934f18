-- What the loop over the lines of a file promises. Assumes nothing.
use Rattle.std.specs.Prelude.{ℕ, ◌≡◌, List, length, Ok}
use Rattle.std.proofs.lemmas.List.Edits.{sets}
use Rattle.paper.specs.Answers.{Answer, given}
use Rattle.paper.specs.declared.Refusal.TheVariants.{OutOfForm}
use Rattle.keyed.specs.Forms.{told_line}
use Rattle.rulefile.specs.Files.{file_lines}

-- the lines of a file were read and counted, or the one out of form is told, and their numbers stored as far as there is room
pub record Sees (s out after : List ℕ) (r : Answer ℕ) : Type 0 where
  pub count : r ≡ given (file_lines s).whole (OutOfForm (told_line (file_lines s))) (Ok (length (file_lines s).numbers))
  pub stored : after ≡ sets out 0 (file_lines s).numbers
