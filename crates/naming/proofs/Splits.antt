-- A file cut into lines: how long the first is, and what its end tells of the lines. Assumes nothing.
use Prim.Native.Nat.{ℕ, suc, ◌+◌, ◌-◌, ◌≤◌, ◌<◌}
use mathlib.Core.Path.{◌≡◌, refl, sym, ap, ◌∙◌}
use mathlib.Core.Bool.{Bool, true, false, cond, not}
use mathlib.Core.List.{List, [], ◌∷◌, ◌++◌}
use native.Mathlib.Omega.{arith}
use borrow.Author.Tests.{eq-eqb, ne_eqb, eqb-true}
use lib.Dec.{eqb}
use lib.ListN.{length, get_or, take, drop, length-append, length-drop}
use lib.Seq.{take_at, take_all, drop-append-add, drop-drop}
use Rattle.std.specs.Bool.{◌==◌}
use Rattle.std.specs.List.{take_while}
use Rattle.std.proofs.lemmas.List.Sums.{take_while-cons}
use Rattle.text.proofs.Texts.{cut, over}
use Rattle.naming.specs.Names.{Lines, ended, last, longer, lines_of, first_line}

-- ---- the first line

longer_first : (b : ℕ) (lines : Lines) → first_line (longer b lines) ≡ b ∷ first_line lines
longer_first b (ended s more) = refl
longer_first b (last s) = refl

-- how long the line from a place on is
abbrev pub line_length : List ℕ → ℕ → ℕ
line_length s i = length (first_line (lines_of (drop i s)))

-- it is as long as what stands before a line feed
pub line_taken : (s : List ℕ) → length (first_line (lines_of s)) ≡ length (take_while (λ b. not (b == 10)) s)
line_taken [] = refl
line_taken (b ∷ s) = go (b == 10) (line_taken s) ∙ ap length (sym (take_while-cons (λ b. not (b == 10)) b s))
  where
    go : (f : Bool) → length (first_line (lines_of s)) ≡ length (take_while (λ b. not (b == 10)) s)
        → length (first_line (cond f (ended [] (lines_of s)) (longer b (lines_of s)))) ≡ length (cond (not f) (b ∷ take_while (λ b. not (b == 10)) s) [])
    go true e = refl
    go false e = ap length (longer_first b (lines_of s)) ∙ ap suc e

-- ---- the two ways in which a line ends

pub data Split (s : List ℕ) : Type 0 where
  feeds : (t rest : List ℕ) → s ≡ t ++ (10 ∷ rest) → lines_of s ≡ ended t (lines_of rest) → Split s
  ends : lines_of s ≡ last s → Split s

pub split_of : (s : List ℕ) → Split s
split_of [] = ends refl
split_of (b ∷ s) = go (eqb b 10) refl (split_of s)
  where
    go : (f : Bool) → eqb b 10 ≡ f → Split s → Split (b ∷ s)
    go true f r = feeds [] s (let e = eqb-true b 10 f in rw e) (rw f)
    go false f (feeds t rest e l) = feeds (b ∷ t) rest (rw e) (rw (f, l))
    go false f (ends l) = ends (rw (f, l))

-- ---- the line that begins at a place of the file

-- the bytes between two places
abbrev pub line_at : List ℕ → ℕ → ℕ → List ℕ
line_at file at end = take (end - at) (drop at file)

module _ (file : List ℕ) (at end : ℕ) (a : at ≤ length file) (e : end ≡ at + line_length file at) where
  left : length (drop at file) ≡ length file - at
  left = length-drop at file

  -- it ends in the file; and either a line feed stands there and the lines after it follow, or it is the last
  pub record At : Type 0 where
    pub from : at ≤ end
    pub inside : end ≤ length file
    pub feed : end < length file → lines_of (drop at file) ≡ ended (line_at file at end) (lines_of (drop (end + 1) file))
    pub over : length file ≤ end → lines_of (drop at file) ≡ last (line_at file at end)
    pub long : line_at file at end ≡ first_line (lines_of (drop at file))

  at_split : Split (drop at file) → At
  at_split (feeds t rest f l) =
      let n : line_length file at ≡ length t = ap (λ (x : Lines). length (first_line x)) l in
      let k : length (drop at file) ≡ length t + suc (length rest) = ap length f ∙ length-append t (10 ∷ rest) in
      let m = left in
      let o : length t ≡ end - at = omega arith in
      let p : line_at file at end ≡ t = ap (take (end - at)) f ∙ take_at t (10 ∷ rest) (end - at) o in
      let q : at + (length t + 1) ≡ end + 1 = omega arith in
      let r : drop (end + 1) file ≡ rest =
      ap (λ (x : ℕ). drop x file) (sym q) ∙ sym (drop-drop (length t + 1) at file) ∙ ap (drop (length t + 1)) f ∙ drop-append-add t (10 ∷ rest) 1 in
      record {
        from = omega arith;
        inside = omega arith;
        feed = λ h. l ∙ rw (p, r);
        over = λ h. absurd (let bad : ⊥ = omega arith in bad);
        long = p ∙ ap first_line (sym l);
      }
  at_split (ends l) =
      let n : line_length file at ≡ length (drop at file) = ap (λ (x : Lines). length (first_line x)) l in
      let m = left in
      let p : line_at file at end ≡ drop at file = take_all (end - at) (drop at file) (omega arith) in
      record {
        from = omega arith;
        inside = omega arith;
        feed = λ h. absurd (let bad : ⊥ = omega arith in bad);
        over = λ h. l ∙ ap last (sym p);
        long = p ∙ ap first_line (sym l);
      }

  pub line_at_law : At
  line_at_law = at_split (split_of (drop at file))
