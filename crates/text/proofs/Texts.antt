-- A fixed text read off the front of a text, and texts cut at a place. Assumes nothing.
use Prim.Native.Nat.{ℕ, ◌+◌, ◌-◌, ◌≤◌, ◌<◌}
use mathlib.Core.Path.{◌≡◌, refl, sym, ap, ◌∙◌}
use mathlib.Core.Bool.{Bool, true, false, cond, ◌&&◌, true≢false}
use mathlib.Core.Logic.{⊎_elim}
use mathlib.Core.List.{List, [], ◌∷◌, ◌++◌}
use native.Mathlib.Numerals.{add-one}
use native.Mathlib.Omega.{arith}
use borrow.Author.Tests.{le-leb, lt-leb, eq-eqb, eqb-true}
use lib.Dec.{leb, eqb}
use Rattle.std.proofs.lemmas.List.{length-take, get_or-take, get_or-drop}
use lib.ListN.{length, get_or, take, drop, length-drop, drop_of_length-le}
use lib.Seq.{drop-cons, drop-drop, take_all}
use Rattle.std.specs.List.{starts_with}
use Rattle.text.specs.Digits.{starts, starts_digit, is_end, got, no, past}
use Rattle.paper.proofs.Tests.{split}
use Rattle.text.proofs.Runs.{never}

-- reading the text that stands there stops right after it, and what is passed is that text
pub past_append : (w s : List ℕ) → past w (w ++ s) ≡ got tt s
past_append [] s = refl
past_append (a ∷ w) s = rw (eq-eqb a a refl) (past_append w s)

pub append_past : (w s t : List ℕ) → past w s ≡ got tt t → s ≡ w ++ t
append_past [] s t e = cc
append_past (a ∷ w) [] t e = absurd (never e)
append_past (a ∷ w) (b ∷ s) t e = go (eqb a b) refl (append_past w s t) e
  where
    go : (f : Bool) → eqb a b ≡ f → (past w s ≡ got tt t → s ≡ w ++ t) → cond f (past w s) no ≡ got tt t → b ∷ s ≡ a ∷ (w ++ t)
    go true f ih e = let x = eqb-true a b f in rw (x, ← ih e)
    go false f ih e = absurd (never e)

-- a text from a place on
pub cut : (s : List ℕ) (i : ℕ) → i < length s → drop i s ≡ get_or s i 0 ∷ drop (i + 1) s
cut s i h = rw (add-one, drop-cons s i 0)

pub over : (s : List ℕ) (i : ℕ) → length s ≤ i → drop i s ≡ []
over s i h = drop_of_length-le s {i = i} h

-- a byte of a part of a text stands in the text
module _ (s : List ℕ) (from n i : ℕ) (h : i < length (take n (drop from s))) where
  pub part_inside : (i < n) × (from + i < length s)
  part_inside =
      let l = length-take n (drop from s) in
      let m = length-drop from s in
      (omega arith, omega arith)

  pub part_at : get_or (take n (drop from s)) i 0 ≡ get_or s (from + i) 0
  part_at = let l = part_inside.0 in get_or-take n (drop from s) i 0 l ∙ get_or-drop from s i 0

-- two places in a text with the same text after them are the same place
pub same_place : (s : List ℕ) (i j : ℕ) → i ≤ length s → j ≤ length s → drop i s ≡ drop j s → i ≡ j
same_place s i j h l e = omega (arith, length-drop i s, length-drop j s, ap length e)

pub ends : (s : List ℕ) (i : ℕ) → leb (length s) i ≡ is_end (drop i s)
ends s i = ⊎_elim (λ h. le-leb (length s) i h ∙ ap is_end (sym (over s i h))) (λ h. lt-leb (length s) i h ∙ ap is_end (sym (cut s i h))) (split (length s) i)

-- a byte of a text that starts with it stands inside
pub stands_inside : (b : ℕ) (s : List ℕ) (i : ℕ) → starts b (drop i s) ≡ true → i < length s
stands_inside b s i e = ⊎_elim (λ h. absurd (true≢false (sym e ∙ ap (starts b) (over s i h)))) (λ h. h) (split (length s) i)

pub digit_inside : (s : List ℕ) (i : ℕ) → starts_digit (drop i s) ≡ true → i < length s
digit_inside s i e = ⊎_elim (λ h. absurd (true≢false (sym e ∙ ap starts_digit (over s i h)))) (λ h. h) (split (length s) i)

-- what stands at the front of a text is passed, and nothing else
pub past_starts : (w s : List ℕ) → cond (starts_with eqb s w) (got tt (drop (length w) s)) no ≡ past w s
past_starts [] s = refl
past_starts (a ∷ w) [] = refl
past_starts (a ∷ w) (b ∷ s) = go (eqb a b) (past_starts w s)
  where
    go : (f : Bool) → cond (starts_with eqb s w) (got tt (drop (length w) s)) no ≡ past w s
        → cond (f && starts_with eqb s w) (got tt (drop (length w) s)) no ≡ cond f (past w s) no
    go true e = e
    go false e = refl

-- the same of a text from a place on
pub past_from : (w s : List ℕ) (from at : ℕ) (b : Bool) → drop from s ≡ drop at s → b ≡ starts_with eqb (take (length s - from) (drop from s)) w
    → cond b (got tt (drop (from + length w) s)) no ≡ past w (drop at s)
past_from w s from at b e q =
    let l : length (drop from s) ≤ length s - from = omega (arith, length-drop from s) in
    let t : take (length s - from) (drop from s) ≡ drop from s = take_all (length s - from) (drop from s) l in
    rw (q, t, ← drop-drop (length w) from s) (past_starts w (drop from s)) ∙ ap (past w) e
