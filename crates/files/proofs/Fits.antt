-- What was read lies in the lent list: the count of its numbers is at most the list's length. Assumes nothing.
use Rattle.std.specs.Prelude.{None, Ok, Option, Result, Some, is_none}
use Rattle.std.proofs.Common.{◌≡◌, ℕ, ◌+◌, ◌<◌, ◌≤◌, Bool, true, false, cond, ltb, List, [], ◌∷◌, length, length-take-le, take, sym, ap, ◌∙◌, ⊎_elim, arith, le-leb}
use borrow.Author.Tests.{lt-leb}
use lib.Seq.{length-sets}
use Rattle.paper.proofs.Tests.{split}
use Rattle.text.specs.Kept.{Current, short, long}
use Rattle.lines.specs.Lines.{lines_of}
use Rattle.conversion.specs.declared.Table.{Table}
use Rattle.fields.specs.declared.row.Judged.{Judged}
use Rattle.fields.specs.declared.row.Judged.TheVariants as judged
use Rattle.fields.specs.Line.{words_of, numbers_of, row_of, judged_as}
use Rattle.files.specs.declared.reading.Fault.{Fault}
use Rattle.files.specs.declared.reading.Fault.TheVariants as fault
use Rattle.files.specs.declared.reading.Reading.{Reading}
use Rattle.files.specs.File.{End, over, broken, until, File, shut, holds, Made, made, begin, numbered, begun, fails, stored, taken, wanted}
use Rattle.files.specs.File.{with_judged, with_line, with_came, with_next, well, unless_faulty, after, ended, read_all, table_here, table_as, ReadsTable}
use Rattle.files.specs.declared.problems.Problem.{Problem}

-- so many are taken from a list that has them
pub front_taken : (n : ℕ) (xs : List ℕ) → n ≤ length xs → n ≡ length (take n xs)
front_taken n xs h = sym (length-take-le n xs h)

-- the numbers that count are in the list
abbrev Fits : Made → Type 0
Fits x = x.reading.count ≤ length x.rows

either : (b : Bool) (x y : Made) → Fits x → Fits y → Fits (cond b x y)
either true x y f g = f
either false x y f g = g

stored_fits : (x : Made) (ns : List ℕ) → Fits x → Fits (stored x ns)
unfolding stored
stored_fits x ns f =
    ⊎_elim (λ (h : x.reading.count + length ns ≤ length x.rows). rw (le-leb (x.reading.count + length ns) (length x.rows) h, length-sets) h)
    (λ (h : length x.rows < x.reading.count + length ns). rw (lt-leb (x.reading.count + length ns) (length x.rows) h) f)
    (split (x.reading.count + length ns) (length x.rows))

judged_fits : (x : Made) (ns : List ℕ) (j : Judged) → Fits x → Fits (with_judged x ns j)
unfolding taken
judged_fits x ns judged.Blank f = f
judged_fits x ns judged.Good f = either (is_none x.reading.table) (made (begun ns x.reading) x.rows) (stored x ns) f (stored_fits x ns f)
judged_fits x ns judged.NoNumber f = f
judged_fits x ns judged.OtherCount f = f

came_fits : (x : Made) (l : Current) → Fits x → Fits (with_came x l)
unfolding with_line
came_fits x (short s) f = judged_fits x (numbers_of (words_of s)) (judged_as (wanted (is_none x.reading.table)) (row_of s).form) f
came_fits x long f = f

next_fits : (x : Made) (l : Current) → Fits x → Fits (with_next x l)
unfolding with_next
next_fits x l f =
    let y = made (numbered x.reading) x.rows in
    either (ltb x.reading.line 10000) (with_came y l) (fails fault.TooMany x) (came_fits y l f) f

unless_fits : (x y : Made) → Fits x → Fits y → Fits (unless_faulty x y)
unfolding unless_faulty
unless_fits x y f g = either (well x.reading.fault) y x g f

after_fits : (x : Made) (ls : List Current) → Fits x → Fits (after x ls)
after_fits x [] f = f
after_fits x (l ∷ ls) f = after_fits (unless_faulty x (with_next x l)) ls (unless_fits x (with_next x l) f (next_fits x l f))

ended_fits : (x : Made) (e : End) → Fits x → Fits (ended x e)
ended_fits x over f = f
ended_fits x (broken n) f = unless_fits x (fails fault.NotRead x) f f

file_fits : (rows : List ℕ) (file : File) → Fits (read_all rows file)
file_fits rows shut = omega arith
file_fits rows (holds bytes e) =
    let x = made begin rows in
    let ls = until e (lines_of 4096 bytes) in
    ended_fits (after x ls) e (after_fits x ls (omega arith))

-- ---- the answers

here_count : (k : ℕ) (t : Option Table) {table : Table} {n : ℕ} → Ok (table, n) ≡ table_here k t → n ≡ k
here_count k None e = cc
here_count k (Some t) {table} {n} e = let p : ◌≡◌ {A = Table × ℕ} (table, n) (t, k) = cc in ap (λ (x : Table × ℕ). x.1) p

table_count : (r : Reading) (f : Option Fault) {table : Table} {n : ℕ} → Ok (table, n) ≡ table_as r f → n ≡ r.count
table_count r (Some f) e = cc
table_count r None e = here_count r.count r.table e

-- the rows of a table that was read lie in the lent list
pub table_fits : {rows left : List ℕ} {t : Result (Table × ℕ) Problem} → ReadsTable rows t left → {table : Table} {n : ℕ} → t ≡ Ok (table, n) → n ≤ length left
table_fits {rows} {left} {t} r {table} {n} e =
    let x = read_all rows r.file in
    let c : n ≡ x.reading.count = table_count x.reading x.reading.fault (sym e ∙ r.told) in
    let f = file_fits rows r.file in
    rw r.stored (omega arith)

-- so many are taken from it
pub table_taken : {rows left : List ℕ} {t : Result (Table × ℕ) Problem} → ReadsTable rows t left → {table : Table} {n : ℕ} → t ≡ Ok (table, n) → n ≡ length (take n left)
table_taken r e = sym (length-take-le _ _ (table_fits r e))
