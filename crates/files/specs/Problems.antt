-- What is wrong with a file, and the line that says so. Assumes nothing.
use Rattle.std.specs.Prelude.{ℕ, Bool, cond, List, ◌++◌}
use Rattle.text.specs.Digits.{digits}
use Rattle.text.specs.Quoted.{bytes}
use Rattle.files.specs.declared.problems.Expected.{Expected}
use Rattle.files.specs.declared.problems.Expected.TheVariants as expected
use Rattle.files.specs.declared.problems.Problem.{Problem}
use Rattle.files.specs.declared.problems.Problem.TheVariants as problem
use Rattle.files.specs.declared.reading.Fault.{Fault}
use Rattle.files.specs.declared.reading.Fault.TheVariants as fault

-- ---- the line

abbrev pub expected_text : Expected → List ℕ
expected_text expected.ShortLine = bytes "at most 4096 bytes"
expected_text expected.Numbers = bytes "numbers up to 65535 with spaces between them"
expected_text expected.Four = bytes "4 numbers: the first BS year and its first Gregorian day"
expected_text expected.Thirteen = bytes "13 numbers: the lengths of twelve months and their sum"
expected_text expected.End = bytes "the end of the file: there are too many lines"

-- what was expected in line n
unfoldable pub at_line : ℕ → Expected → List ℕ
at_line n e = bytes ": line " ++ (digits n ++ (bytes ": expected " ++ expected_text e))

unfoldable pub what_text : Problem → List ℕ
what_text problem.NotOpened = bytes ": cannot be opened"
what_text problem.NotRead = bytes ": cannot be read to its end"
what_text problem.TooLarge = bytes ": larger than 65536 bytes"
what_text problem.NoLine = bytes ": expected a line of numbers, found none"
what_text (problem.At n e) = at_line n e

-- the file, what is wrong with it, and a line feed
unfoldable pub problem_text : List ℕ → Problem → List ℕ
problem_text path p = path ++ (what_text p ++ bytes "\n")

-- ---- how a reading ended

-- a line has another count of numbers: a table's first line has four, a row thirteen
unfoldable pub expected_count : Bool → Expected
expected_count awaits = cond awaits expected.Four expected.Thirteen

-- the fault of a line, or of the file
abbrev pub wrong_as : Bool → ℕ → Fault → Problem
wrong_as awaits line fault.LongLine = problem.At line expected.ShortLine
wrong_as awaits line fault.NoNumber = problem.At line expected.Numbers
wrong_as awaits line fault.OtherCount = problem.At line (expected_count awaits)
wrong_as awaits line fault.TooMany = problem.At line expected.End
wrong_as awaits line fault.NotRead = problem.NotRead
wrong_as awaits line fault.NotOpened = problem.NotOpened
