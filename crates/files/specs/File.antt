-- A year table: a file, line by line, and what it makes of the lent list. What a line is, `fields` says; what a fault becomes, Problems.antt.
-- Assumes nothing.
use Rattle.std.specs.Prelude.{◌≡◌, ℕ, ◌+◌, Bool, true, false, cond, List, [], ◌∷◌, length, take, nat_le, nat_lt, slice_index, Err, None, Ok, Option, Result, Some, is_none}
use Rattle.std.proofs.lemmas.List.Edits.{sets}
use Rattle.text.specs.Kept.{Current, short, long}
use Rattle.lines.specs.Lines.{lines_of}
use Rattle.files.specs.declared.reading.Fault.{Fault}
use Rattle.files.specs.declared.reading.Fault.TheVariants as fault
use Rattle.files.specs.declared.reading.Reading.{Reading}
use Rattle.fields.specs.declared.row.Judged.{Judged}
use Rattle.fields.specs.declared.row.Judged.TheVariants as judged
use Rattle.fields.specs.Line.{words_of, numbers_of, row_of, judged_as}
use Rattle.files.specs.Problems.{wrong_as}
use Rattle.conversion.specs.declared.Table.{Table}
use Rattle.files.specs.declared.problems.Problem.{Problem}
use Rattle.files.specs.declared.problems.Problem.TheVariants as problem

-- ---- what a path names

-- how a file ends: read to its end, or after so many lines, where it cannot be read on
pub data End : Type 0 where
  over : End
  broken : ℕ → End

-- nothing that can be opened; or bytes, and how they end
pub data File : Type 0 where
  shut : File
  holds : List ℕ → End → File

-- a line that was too long, or these bytes
abbrev pub came_as : Bool → List ℕ → Current
came_as true s = long
came_as false s = short s

-- the lines that are read by then
abbrev pub until : End → List Current → List Current
until over ls = ls
until (broken n) ls = take n ls

-- ---- what its lines make

-- where the reading stands, and the list of the numbers
pub record Made : Type 0 where
  pub reading : Reading
  pub rows : List ℕ

-- a reading and a list
abbrev pub made : Reading → List ℕ → Made
made r rows = record { reading = r; rows = rows }

-- before the first line: a table's first line is awaited, and nothing stored
abbrev pub begin : Reading
begin = record {
  line = 0;
  table = None;
  count = 0;
  fault = None;
}

-- at the next line
abbrev pub numbered : Reading → Reading
numbered r = record { line = r.line + 1; table = r.table; count = r.count; fault = r.fault }

-- with a fault in the line
abbrev pub faulted : Fault → Reading → Reading
faulted f r = record { line = r.line; table = r.table; count = r.count; fault = Some f }

-- with a table's first line: the first BS year, and its first Gregorian day
abbrev pub begun : List ℕ → Reading → Reading
begun ns r = record {
  line = r.line;
  table = Some (record { first_year = slice_index ns 0; year = slice_index ns 1; month = slice_index ns 2; day = slice_index ns 3 });
  count = r.count;
  fault = r.fault;
}

-- with so many numbers more
abbrev pub counted : ℕ → Reading → Reading
counted n r = record { line = r.line; table = r.table; count = r.count + n; fault = r.fault }

-- a fault leaves the list
abbrev pub fails : Fault → Made → Made
fails f x = made (faulted f x.reading) x.rows

-- a row stored behind the others, or too many rows for the list
unfoldable pub stored : Made → List ℕ → Made
stored x ns =
    cond (nat_le (x.reading.count + length ns) (length x.rows))
    (made (counted (length ns) x.reading) (sets x.rows x.reading.count ns))
    (fails fault.TooMany x)

-- a line with the numbers that are wanted: a table's first line, or a row
unfoldable pub taken : Made → List ℕ → Made
taken x ns = cond (is_none x.reading.table) (made (begun ns x.reading) x.rows) (stored x ns)

-- how many numbers are wanted: four in a table's first line, thirteen in a row
unfoldable pub wanted : Bool → ℕ
wanted awaits = cond awaits 4 13

-- a line without numbers counts for nothing
abbrev pub with_judged : Made → List ℕ → Judged → Made
with_judged x ns judged.Blank = x
with_judged x ns judged.Good = taken x ns
with_judged x ns judged.NoNumber = fails fault.NoNumber x
with_judged x ns judged.OtherCount = fails fault.OtherCount x

-- a line as it is judged by how many numbers are wanted
unfoldable pub with_line : Made → List ℕ → Made
with_line x s = with_judged x (numbers_of (words_of s)) (judged_as (wanted (is_none x.reading.table)) (row_of s).form)

-- a line that is too long is a fault
abbrev pub with_came : Made → Current → Made
with_came x (short s) = with_line x s
with_came x long = fails fault.LongLine x

-- a file has at most 10,000 lines: where one more comes, the last was to be the end
unfoldable pub with_next : Made → Current → Made
with_next x l =
    cond (nat_lt x.reading.line 10000)
    (with_came (made (numbered x.reading) x.rows) l)
    (fails fault.TooMany x)

-- nothing is wrong
abbrev pub well : Option Fault → Bool
well f = is_none f

-- the first fault ends the reading: nothing behind it counts
unfoldable pub unless_faulty : Made → Made → Made
unless_faulty x y = cond (well x.reading.fault) y x

-- lines, the first first
abbrev pub after : Made → List Current → Made
after x [] = x
after x (l ∷ ls) = after (unless_faulty x (with_next x l)) ls

-- lines that break off are a fault
abbrev pub ended : Made → End → Made
ended x over = x
ended x (broken n) = unless_faulty x (fails fault.NotRead x)

-- ---- a whole file

-- what the lines of these bytes make, where so many bytes of each are kept
abbrev pub read_bytes : ℕ → Made → List ℕ → End → Made
read_bytes room x bytes e = ended (after x (until e (lines_of room bytes))) e

-- a table; a line has at most 4,096 bytes
abbrev pub read_all : List ℕ → File → Made
read_all rows shut = fails fault.NotOpened (made begin rows)
read_all rows (holds bytes e) = read_bytes 4096 (made begin rows) bytes e

-- a table's first line and how many numbers its rows have, or that there is no such line
abbrev pub table_here : ℕ → Option Table → Result (Table × ℕ) Problem
table_here n (Some table) = Ok (table, n)
table_here n None = Err problem.NoLine

-- that; or what is wrong
abbrev pub table_as : Reading → Option Fault → Result (Table × ℕ) Problem
table_as r (Some f) = Err (wrong_as (is_none r.table) r.line f)
table_as r None = table_here r.count r.table

-- the table that a reading gives
abbrev pub table_of : Reading → Result (Table × ℕ) Problem
table_of r = table_as r r.fault

-- some file gives this table and leaves these rows
pub record ReadsTable (rows : List ℕ) (answer : Result (Table × ℕ) Problem) (left : List ℕ) : Type 0 where
  pub file : File
  pub told : answer ≡ table_of (read_all rows file).reading
  pub stored : left ≡ (read_all rows file).rows
