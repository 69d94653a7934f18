-- What a file makes, line by line: each step over plain variables, and the steps one after the other. Assumes nothing.
use Rattle.std.specs.Prelude.{Option, is_some, is_none}
use mathlib.Core.Bool.{not}
use Rattle.std.proofs.Common.{◌≡◌, ℕ, zero, suc, ◌+◌, ◌<◌, ◌≤◌, Bool, true, false, eqb, List, [], ◌∷◌, ◌++◌, length, get_or, take, sym, refl, ap, ◌∙◌, arith, length-take-le, get_or-take, le-ltb, lt-ltb, eq-eqb, ne_eqb, le-leb}
use borrow.Author.Tests.{lt-leb}
use lib.Seq.{sets, sets-eq}
use borrow.Rule.Slice.PartMut.{put_mid}
use Rattle.std.proofs.Common.{append_assoc}
use Rattle.std.proofs.lemmas.List.{drop-drop}
use Rattle.std.proofs.lemmas.List.{take_all}
use Rattle.files.specs.declared.reading.Fault.TheVariants as fault
use Rattle.files.specs.declared.reading.Reading.{Reading}
use Rattle.fields.specs.declared.row.Row.{Row}
use Rattle.fields.specs.declared.row.Judged.{Judged}
use Rattle.fields.specs.declared.row.Judged.TheVariants as judged
use Rattle.fields.specs.Line.{numbers_of, words_of, row_of, judged_as}
use Rattle.fields.proofs.Rows.{front_numbers}
use Rattle.text.specs.Kept.{Current, current}
use Rattle.lines.specs.declared.Input.{Input}
use Rattle.lines.specs.Lines.{started, waiting, line_in, NextLine, lines_of}
use Rattle.lines.proofs.Told.{Stand, closed, stand_first, stand_begins, begins_front, Later, line_more, no_more, cut_off, stand_next}
use Rattle.files.specs.File.{over, broken, came_as, Made, made, numbered, faulted, begun, counted, fails, stored, taken, wanted, with_judged}
use Rattle.files.specs.File.{with_line, with_next, well, unless_faulty, after, ended, holds, begin}
use Rattle.files.specs.Inner.{with_input, Makes, Reads}
use Rattle.conversion.specs.declared.Table.{Table}

-- ---- numbers that are stored

-- what is copied into the middle of a list is stored there
pub copied : (l v : List ℕ) (at n : ℕ) → length v ≡ n → at + n ≤ length l → put_mid at n l v ≡ sets l at (take n v)
copied l v at n e h =
    let t : take n v ≡ v = take_all n v (omega arith) in
    let q = sets-eq v l at (omega arith) in
    rw (t, q, e, append_assoc, drop-drop)

-- ---- a row

-- what the test of the table's first line says
pub awaits_is : (t : Option Table) (b : Bool) → is_some t ≡ not b → is_none t ≡ b
awaits_is t true e = rw e
awaits_is t false e = rw e

-- the same reading and the same list
pub instead : {q p : Reading} {a b : List ℕ} {z : Made} → q ≡ p → a ≡ b → made p b ≡ z → made q a ≡ z
instead e f h = rw (e, f) h

-- only the first four numbers count
pub begun_front : (r : Reading) (v : List ℕ) → begun v r ≡ begun (take 4 v) r
begun_front r v =
    let a : get_or (take 4 v) 0 0 ≡ get_or v 0 0 = get_or-take 4 v 0 0 (omega arith) in
    let b : get_or (take 4 v) 1 0 ≡ get_or v 1 0 = get_or-take 4 v 1 0 (omega arith) in
    let c : get_or (take 4 v) 2 0 ≡ get_or v 2 0 = get_or-take 4 v 2 0 (omega arith) in
    let d : get_or (take 4 v) 3 0 ≡ get_or v 3 0 = get_or-take 4 v 3 0 (omega arith) in
    rw (a, b, c, d)

module _ (r : Reading) (rows v : List ℕ) where
  pub row_over : 13 ≤ length v → length rows < r.count + 13 → made (faulted fault.TooMany r) rows ≡ stored (made r rows) (take 13 v)
  unfolding stored
  row_over h l = rw (length-take-le 13 v h, lt-leb (r.count + 13) (length rows) l)

  pub row_stored : 13 ≤ length v → r.count + 13 ≤ length rows → made (counted 13 r) (sets rows r.count (take 13 v)) ≡ stored (made r rows) (take 13 v)
  unfolding stored
  row_stored h l = rw (length-take-le 13 v h, le-leb (r.count + 13) (length rows) l)

  pub taken_first : is_none r.table ≡ true → made (begun (take 4 v) r) rows ≡ taken (made r rows) (take (wanted (is_none r.table)) v)
  unfolding taken wanted
  taken_first e = rw e

  pub taken_row : is_none r.table ≡ false → {y : Made} → y ≡ stored (made r rows) (take 13 v) → y ≡ taken (made r rows) (take (wanted (is_none r.table)) v)
  unfolding taken wanted
  taken_row e t = t ∙ rw e

-- ---- a line

wanted_small : (awaits : Bool) → wanted awaits ≤ 13
unfolding wanted
wanted_small true = omega arith
wanted_small false = omega arith

module _ (r : Reading) (rows s : List ℕ) {row : Row} {n : ℕ} {j k : Judged} (e : row ≡ row_of s) (f : n ≡ wanted (is_none r.table))
    (g : j ≡ judged_as n row.form) (h : j ≡ k) where
  judged_line : judged_as (wanted (is_none r.table)) (row_of s).form ≡ k
  judged_line = rw (← f, ← e) (sym g ∙ h)

  pub line_as : with_judged (made r rows) (numbers_of (words_of s)) k ≡ with_line (made r rows) s
  unfolding with_line
  line_as = sym (ap (λ (i : Judged). with_judged (made r rows) (numbers_of (words_of s)) i) judged_line)

module _ (r : Reading) (rows s : List ℕ) {row : Row} {n : ℕ} {j : Judged} (e : row ≡ row_of s) (f : n ≡ wanted (is_none r.table))
    (g : j ≡ judged_as n row.form) (h : j ≡ judged.Good) where
  pub line_good : {y : Made} → y ≡ taken (made r rows) (take (wanted (is_none r.table)) row.values) → y ≡ with_line (made r rows) s
  line_good t =
      let v = front_numbers (wanted (is_none r.table)) s (wanted_small (is_none r.table)) (judged_line r rows s e f g h) in
      t ∙ rw (e, v) (line_as r rows s e f g h)

module _ (r : Reading) (rows s : List ℕ) (b : Bool) where
  pub next_over : 10000 ≤ r.line → made (faulted fault.TooMany r) rows ≡ with_next (made r rows) (came_as b s)
  unfolding with_next
  next_over h = rw (le-ltb r.line 10000 h)

  module _ (h : r.line < 10000) {q : Reading} (e : q ≡ numbered r) where
    pub next-long : b ≡ true → made (faulted fault.LongLine q) rows ≡ with_next (made r rows) (came_as b s)
    unfolding with_next
    next-long f = rw (e, f, lt-ltb r.line 10000 h)

    pub next-text : b ≡ false → {y : Made} → y ≡ with_line (made q rows) s → y ≡ with_next (made r rows) (came_as b s)
    unfolding with_next
    next-text f t = t ∙ rw (e, f, lt-ltb r.line 10000 h)

-- ---- what the input brings

module _ (x : Made) (input : Input) (line : List ℕ) where
  pub input_broken : input.failed ≡ true → fails fault.NotRead x ≡ with_input x input line
  unfolding with_input
  input_broken f = rw f

  pub input_over : input.failed ≡ false → input.left ≡ 0 → x ≡ with_input x input line
  unfolding with_input
  input_over f z = rw (f, eq-eqb input.left 0 z)

  pub input_line : input.failed ≡ false → (input.left ≡ 0 → ⊥) → with_next x (came_as input.long (take input.len line)) ≡ with_input x input line
  unfolding with_input
  input_line f n = rw (f, ne_eqb input.left 0 n) (ap (with_next x) (go input.long))
    where
      go : (b : Bool) → came_as b (take input.len line) ≡ current line input.len b
      go true = refl
      go false = refl

-- ---- lines one after the other

after_more : (ls : List Current) (l : Current) (x : Made) → well (after x ls).reading.fault ≡ true → after x (ls ++ (l ∷ [])) ≡ with_next (after x ls) l
unfolding unless_faulty
after_more [] l x h = rw h
after_more (k ∷ ls) l x h = after_more ls l (unless_faulty x (with_next x k)) h

after_append : (ls ms : List Current) (x : Made) → after x (ls ++ ms) ≡ after (after x ls) ms
after_append [] ms x = refl
after_append (l ∷ ls) ms x = after_append ls ms (unless_faulty x (with_next x l))

-- nothing behind a fault counts
after_faulty : (ls : List Current) (x : Made) → well x.reading.fault ≡ false → after x ls ≡ x
unfolding unless_faulty
after_faulty [] x h = refl
after_faulty (l ∷ ls) x h = rw h (after_faulty ls x h)

-- where a reading stands after the lines of an input so far
pub record Stood (room : ℕ) (x y : Made) (piece : List ℕ) (input : Input) : Type 0 where
  pub lines : List Current
  pub bytes : List ℕ
  pub stand : Stand room bytes lines input.ends (waiting piece input)
  pub same : y ≡ after x lines
  pub over : input.left ≡ 0 → lines_of room bytes ≡ lines

pub stood_first : {room : ℕ} {x : Made} {piece : List ℕ} {input : Input} (steps : ℕ) → 0 < steps → input ≡ started steps → Stood room x x piece input
stood_first {room} {piece = piece} steps h e =
    rw e (record { lines = []; bytes = []; stand = stand_first room steps piece; same = refl; over = λ z. absurd (let bad : ⊥ = omega arith in bad) })

module _ {room : ℕ} {x y z : Made} {piece line piece' line' : List ℕ} {input r : Input} (s : Stood room x y piece input) (ok : well y.reading.fault ≡ true)
    (k : length line ≡ room) (n : NextLine input piece line piece' line' r) (m : z ≡ with_input y r line') where
  later : Later room s.lines piece' line' r
  later = let st : Stand (length line) s.bytes s.lines input.ends (waiting piece input) = rw k s.stand in rw k at (stand_next st n)

  -- a line that came is one line more
  came_line : r.failed ≡ eqb r.left 0 → (r.left ≡ 0 → ⊥) → z ≡ after x (s.lines ++ (line_in line' r ∷ []))
  unfolding with_input
  came_line f l =
      let e : eqb r.left 0 ≡ false = ne_eqb r.left 0 l in
      let g : r.failed ≡ false = f ∙ e in
      m ∙ (rw (g, e, s.same) (sym (after_more s.lines (line_in line' r) x (rw s.same at ok))))

  came_none : r.failed ≡ false → r.left ≡ 0 → z ≡ after x s.lines
  came_none f e = m ∙ (sym (input_over y r line' f e) ∙ s.same)

  came_broken : r.failed ≡ true → z ≡ fails fault.NotRead y
  came_broken f = m ∙ sym (input_broken y r line' f)

  makes_broken : r.failed ≡ true → Makes room x z
  unfolding unless_faulty
  makes_broken f =
      let e : y ≡ after x (take (length s.lines) (lines_of room s.bytes)) = s.same ∙ ap (after x) (begins_front (stand_begins s.stand)) in
      let q : ended y (broken (length s.lines)) ≡ fails fault.NotRead y = rw ok in
      record { bytes = s.bytes; ends = broken (length s.lines); same = came_broken f ∙ (sym q ∙ ap (λ (v : Made). ended v (broken (length s.lines))) e) }

  -- a reading that goes on
  pub stood_turn : well z.reading.fault ≡ true → Stood room x z piece' r
  stood_turn h = go later
    where
      not-broken : r.failed ≡ true → ⊥
      not-broken f = let e : well (fails fault.NotRead y).reading.fault ≡ true = rw (came_broken f) at h in let b : ◌≡◌ {A = ℕ} 0 1 = cc in omega arith

      more : (left : ℕ) → r.left ≡ left → (b : List ℕ) → Stand room b (s.lines ++ (line_in line' r ∷ [])) r.ends (waiting piece' r) → r.failed ≡ eqb r.left 0 → Stood room x z piece' r
      more zero e b st f = absurd (not-broken (f ∙ eq-eqb r.left 0 e))
      more (suc left) e b st f =
          let l : r.left ≡ 0 → ⊥ = λ q. omega arith in
          record { lines = s.lines ++ (line_in line' r ∷ []); bytes = b; stand = st; same = came_line f l; over = λ q. absurd (l q) }

      go : Later room s.lines piece' line' r → Stood room x z piece' r
      go (line_more b st f) = more r.left refl b st f
      go (no_more b e q) = record {
        lines = s.lines;
        bytes = b;
        stand = closed (ap (λ (i : Input). i.ends) q) e;
        same = came_none (ap (λ (i : Input). i.failed) q) (ap (λ (i : Input). i.left) q);
        over = λ l. e;
      }
      go (cut_off q) = absurd (not-broken (ap (λ (i : Input). i.failed) q))

  -- a reading that ends with a fault
  pub stood_fault : well z.reading.fault ≡ false → Makes room x z
  stood_fault h = go later
    where
      more : (left : ℕ) → r.left ≡ left → (b : List ℕ) → Stand room b (s.lines ++ (line_in line' r ∷ [])) r.ends (waiting piece' r) → r.failed ≡ eqb r.left 0 → Makes room x z
      more zero e b st f = makes_broken (f ∙ eq-eqb r.left 0 e)
      more (suc left) e b st f =
          let ls : List Current = s.lines ++ (line_in line' r ∷ []) in
          let c : z ≡ after x ls = came_line f (λ q. omega arith) in
          let o = stand_begins st in
          record {
            bytes = b;
            ends = over;
            same = sym (ap (after x) o.same ∙ (after_append ls o.others x ∙ (ap (λ (v : Made). after v o.others) (sym c) ∙ after_faulty o.others z h)));
          }

      go : Later room s.lines piece' line' r → Makes room x z
      go (line_more b st f) = more r.left refl b st f
      go (no_more b e q) = record { bytes = b; ends = over; same = came_none (ap (λ (i : Input). i.failed) q) (ap (λ (i : Input). i.left) q) ∙ ap (after x) (sym e) }
      go (cut_off q) = makes_broken (ap (λ (i : Input). i.failed) q)

-- ---- a whole file

module _ {rows : List ℕ} where
  pub reads_lines : {y : Made} → Makes 4096 (made begin rows) y → Reads rows y
  reads_lines m = record { file = holds m.bytes m.ends; same = m.same }
