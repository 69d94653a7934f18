-- The turns of the loop that looks for a name. Assumes nothing.
use Rattle.std.specs.Prelude.{None, Option, Some, is_some}
use Prim.Native.Nat.{ℕ, zero, suc, ◌+◌, ◌-◌, ◌≤◌}
use mathlib.Core.Path.{◌≡◌, refl, sym, ap, ◌∙◌, subst}
use mathlib.Core.Bool.{true, false}
use mathlib.Core.List.{List, [], ◌∷◌}
use mathlib.Core.Logic.{⊎_elim}
use native.Mathlib.Omega.{arith}
use lib.ListN.{length, take, drop, length-append}
use lib.Seq.{take-nil, take_at, drop-drop}
use Rattle.paper.proofs.Tests.{split}
use Rattle.text.proofs.Texts.{over}
use Rattle.utf8.specs.Characters.{front}
use Rattle.utf8.proofs.Theorems.{fronts}
use Rattle.naming.specs.Names.{lines_of, text_of, text_in, present, shown, has_name, name_of}
use Rattle.naming.specs.Inner.{begin_says, BeginInside, Begins, found_says, FoundInside, Finds}
use Rattle.naming.proofs.Splits.{line_length, line_at, line_at_law}
use Rattle.naming.proofs.Heads.{headed_empty, Texts, here, else, texts_of, text_none}

-- the front of a text is a part of it
pub front_taken : (most : ℕ) (s : List ℕ) (n : ℕ) → n ≡ length (front most s) → take n s ≡ front most s
front_taken most s n e = let p = fronts.part most s in ap (take n) p.same ∙ take_at (front most s) p.behind n (sym e)

pub front_inside : (most : ℕ) (s : List ℕ) → length (front most s) ≤ length s
front_inside most s = let p = fronts.part most s in omega (arith, ap length p.same, length-append (front most s) p.behind)

drop_take : (k n : ℕ) (l : List ℕ) → drop k (take n l) ≡ take (n - k) (drop k l)
drop_take zero n l = let e : n - 0 ≡ n = omega arith in rw e
drop_take (suc k) zero l = let e : 0 - suc k ≡ 0 = omega arith in rw e
drop_take (suc k) (suc n) [] = sym (take-nil (suc n - suc k))
drop_take (suc k) (suc n) (a ∷ l) = let e : suc n - suc k ≡ n - k = omega arith in rw e (drop_take k n l)

-- the text of a number in the lines from a place on
abbrev pub text_from : List ℕ → ℕ → ℕ → Option (List ℕ)
text_from file number at = text_in number (lines_of (drop at file))

pub find_over : (file : List ℕ) (number at : ℕ) → length file ≤ at → text_from file number at ≡ None
find_over file number at h = rw (over file at h) (text_none number [] None headed_empty)

module _ (file : List ℕ) (number at end : ℕ) (a : at ≤ length file) (e : end ≡ at + line_length file at) where
  abbrev pub line : List ℕ
  line = line_at file at end

  -- the line and those after it
  find_line : text_from file number at ≡ text_of number line (text_from file number (end + 1))
  find_line =
      let r = line_at_law file at end a e in
      ⊎_elim (λ h. rw (r.over h, find_over file number (end + 1) (omega arith))) (λ h. rw (r.feed h)) (split (length file) end)

  pub find_turn : None ≡ text_of number line None → text_from file number (end + 1) ≡ text_from file number at
  find_turn n = go (texts_of number line)
    where
      go : Texts number line → text_from file number (end + 1) ≡ text_from file number at
      go (here t f) = absurd (let p = f None in let q : None ≡ Some t = n ∙ p in let z : ◌≡◌ {A = ℕ} 0 1 = cc in let bad : ⊥ = omega arith in bad)
      go (else f) = sym (find_line ∙ f (text_from file number (end + 1)))

  pub find_here : (t : List ℕ) → Some t ≡ text_of number line None → Some t ≡ text_from file number at
  find_here t n = go (texts_of number line)
    where
      go : Texts number line → Some t ≡ text_from file number at
      go (here u f) = n ∙ f None ∙ sym (find_line ∙ f (text_from file number (end + 1)))
      go (else f) = absurd (let p = f None in let q : Some t ≡ None = n ∙ p in let z : ◌≡◌ {A = ℕ} 0 1 = cc in let bad : ⊥ = omega arith in bad)

  -- a place in the line as a place in the file
  pub find_place : (k : ℕ) → k ≤ length line → take (end - (at + k)) (drop (at + k) file) ≡ drop k line
  find_place k h =
      let p : take (end - (at + k)) (drop (at + k) file) ≡ take (end - at - k) (drop k (drop at file)) = rw (drop-drop k at file, diff) in
      p ∙ sym (drop_take k (end - at) (drop at file))
    where
      diff : end - (at + k) ≡ end - at - k
      diff = omega arith

-- ---- what the code's answers tell

module _ {s : List ℕ} {number : ℕ} (r : Option ℕ) (p : Begins s number r) where
  pub begins_none : r ≡ None → None ≡ text_of number s None
  begins_none q = sym (ap (begin_says s) q) ∙ p.same

  pub begins_at : {k : ℕ} → r ≡ Some k → Some (drop k s) ≡ text_of number s None
  begins_at q = sym (ap (begin_says s) q) ∙ p.same

  pub begins_inside : {k : ℕ} → r ≡ Some k → k ≤ length s
  begins_inside q = subst (BeginInside s) q p.inside

found_present : (s : List ℕ) (r : Option (ℕ × ℕ)) → is_some r ≡ present (found_says s r)
found_present s (Some (from, to)) = refl
found_present s None = refl

module _ {s : List ℕ} {number : ℕ} (r : Option (ℕ × ℕ)) (p : Finds s number r) where
  pub has_found : is_some r ≡ has_name number s
  unfolding has_name
  has_found = found_present s r ∙ ap present p.same

  finds_text : {from to : ℕ} → r ≡ Some (from, to) → text_in number (lines_of s) ≡ Some (take (to - from) (drop from s))
  finds_text q = sym p.same ∙ ap (found_says s) q

  finds_none : r ≡ None → text_in number (lines_of s) ≡ None
  finds_none q = sym p.same ∙ ap (found_says s) q

  pub finds_inside : {from to : ℕ} → r ≡ Some (from, to) → (from ≤ to) × (to ≤ length s)
  finds_inside q = subst (FoundInside s) q p.inside

  pub name_none : r ≡ None → name_of number s ≡ []
  unfolding name_of
  name_none q = ap shown (finds_none q)

  pub name_some : {from to : ℕ} (n : ℕ) → r ≡ Some (from, to) → n ≡ length (front 120 (take (to - from) (drop from s)))
      → name_of number s ≡ take n (take (to - from) (drop from s))
  unfolding name_of
  name_some {from} {to} n q e = ap shown (finds_text q) ∙ sym (front_taken 120 (take (to - from) (drop from s)) n e)
