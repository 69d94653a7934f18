-- What the answers of reading say of a text. Assumes nothing.
use Rattle.std.specs.Prelude.{ℕ, ◌≤◌, ◌≡◌, List, length, drop, None, Option, Some}
use Rattle.text.specs.Digits.{Got, got, no}
use Rattle.text.specs.declared.reading.Cursor.{Cursor}

-- the value, and the text from the next place on
abbrev pub read_says : {A : Type 0} → List ℕ → Option (A × Cursor) → Got A
read_says s (Some (x, next)) = got x (drop next.at s)
read_says s None = no

abbrev pub passed_says : List ℕ → Option Cursor → Got (Unit {0})
passed_says s (Some next) = got tt (drop next.at s)
passed_says s None = no

-- the place after what was read
abbrev pub read_end : {A : Type 0} → Option (A × Cursor) → ℕ
read_end (Some (x, next)) = next.at
read_end None = 0

abbrev pub passed_end : Option Cursor → ℕ
passed_end (Some next) = next.at
passed_end None = 0

-- what is said is this, and the place after it lies in the text
pub record Says {A : Type 0} (s : List ℕ) (said : Got A) (end : ℕ) (meant : Got A) : Type 0 where
  pub same : said ≡ meant
  pub inside : end ≤ length s
