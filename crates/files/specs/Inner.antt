-- What the loops over a file's lines promise their callers. Assumes nothing.
use Rattle.std.specs.Prelude.{◌≡◌, ℕ, cond, List, ◌==◌}
use Rattle.lines.specs.declared.Input.{Input}
use Rattle.lines.specs.Lines.{line_in}
use Rattle.files.specs.declared.reading.Fault.TheVariants as fault
use Rattle.files.specs.declared.telling.Sought.{Sought}
use Rattle.files.specs.declared.telling.Place.{Place}
use Rattle.files.specs.File.{End, File, Made, fails, with_next, read_bytes, read_all}
use Rattle.files.specs.Told.{looked}

-- a line in the lent buffer, the input's end, or that it cannot be read on
unfoldable pub with_input : Made → Input → List ℕ → Made
with_input x input line = cond input.failed (fails fault.NotRead x) (cond (input.left == 0) x (with_next x (line_in line input)))

-- some bytes and how they end make y of x
pub record Makes (room : ℕ) (x y : Made) : Type 0 where
  pub bytes : List ℕ
  pub ends : End
  pub same : y ≡ read_bytes room x bytes ends

-- some file makes y
pub record Reads (rows : List ℕ) (y : Made) : Type 0 where
  pub file : File
  pub same : y ≡ read_all rows file

-- some lines lead from p to q
pub record Looks (w : Sought) (p q : Place) : Type 0 where
  pub lines : List (List ℕ)
  pub same : q ≡ looked w p lines
