-- How a line is taken apart: each turn of the loops over plain variables. Assumes nothing.
use Rattle.std.specs.Prelude.{None, Option, Some, Result, Ok, Err, ℤ}
use Rattle.std.specs.Result.{OkIff, result_unwrap_or, result_ok}
use mir.Syntax.{w32}
use mir.Val.{SFits}
use Prim.Native.Nat.{ℕ, zero, suc, ◌+◌, ◌-◌, ◌*◌, ◌≤◌, ◌<◌}
use mathlib.Core.Path.{◌≡◌, refl, sym, ap, ◌∙◌, subst}
use mathlib.Core.Bool.{Bool, true, false, cond}
use mathlib.Core.List.{List, []}
use mathlib.Core.Logic.{⊎_elim}
use native.Mathlib.Omega.{arith}
use borrow.Author.Tests.{leb-true, le-leb, lt-leb}
use lib.Dec.{leb}
use lib.IntN.{pos, negsuc}
use lib.ListN.{length, get_or, drop, set}
use Rattle.paper.proofs.Tests.{and_left, and_right, split}
use Rattle.text.specs.Digits.{Got, got, no, past, fixed, decimal, is_end}
use Rattle.text.specs.Quoted.{bytes}
use Rattle.text.specs.Reading.{Says, read_says, read_end}
use Rattle.text.specs.declared.reading.Cursor.{Cursor}
use Rattle.text.proofs.Signs.{word_fits}
use Rattle.text.proofs.Texts.{cut, over}
use Rattle.asked.specs.Line.{letter, letters, kind_of, item, Item, word, with_kind, cons, others, packed, unformed, words_of, zeros, kinded, found_says, found_end, found_kind, fitting, whole_of}
use Rattle.asked.specs.declared.words.Words.{Words}

-- ---- a tag

pub letter_is : (b : ℕ) → letter b ≡ true → (97 ≤ b) × (b ≤ 122)
unfolding letter
letter_is b e = (leb-true 97 b (and_left (leb 97 b) (leb b 122) e), leb-true b 122 (and_right (leb 97 b) (leb b 122) e))

module _ (s : List ℕ) (i v : ℕ) where
  pub letters_over : length s ≤ i → got v (drop i s) ≡ letters v (drop i s)
  letters_over h = rw (over s i h)

  pub letters_stop : i < length s → letter (get_or s i 0) ≡ false → got v (drop i s) ≡ letters v (drop i s)
  letters_stop h d = rw (cut s i h, d)

  pub letters_large : i < length s → letter (get_or s i 0) ≡ true → 18446744073709551615 < v * 64 + (get_or s i 0 - 96) → no ≡ letters v (drop i s)
  letters_large h d l = rw (cut s i h, d, lt-leb (v * 64 + (get_or s i 0 - 96)) 18446744073709551615 l)

  pub letters_turn : i < length s → letter (get_or s i 0) ≡ true → v * 64 + (get_or s i 0 - 96) ≤ 18446744073709551615
      → letters (v * 64 + (get_or s i 0 - 96)) (drop (i + 1) s) ≡ letters v (drop i s)
  letters_turn h d l = rw (cut s i h, d, le-leb (v * 64 + (get_or s i 0 - 96)) 18446744073709551615 l)

-- ---- a word

module _ (s : List ℕ) where
  pub word_bits : {t : List ℕ} → past (bytes "0x") s ≡ got tt t → word s ≡ item (λ n. 4) (fixed 16 16 0 t)
  unfolding word
  word_bits e = rw e

  module _ (e : past (bytes "0x") s ≡ no) where
    pub word-minus : {t : List ℕ} → past (bytes "-") s ≡ got tt t → word s ≡ item (λ n. 3) (decimal 2147483648 t)
    unfolding word
    word-minus f = rw (e, f)

    pub word_number : past (bytes "-") s ≡ no → word s ≡ item kind_of (decimal 4294967295 s)
    unfolding word
    word_number f = rw (e, f)

-- what of_kind makes of a reading
kinded_says : (s : List ℕ) (k : ℕ) (r : Option (ℕ × Cursor)) (g : Got ℕ) → Says s (read_says s r) (read_end r) g
    → Says s (found_says s (kinded k r)) (found_end (kinded k r)) (item (λ n. k) g)
kinded_says s k (Some (n, next)) g p = record { same = ap (item (λ m. k)) p.same; inside = p.inside }
kinded_says s k None g p = record { same = ap (item (λ m. k)) p.same; inside = p.inside }

kinded_small : (k : ℕ) (r : Option (ℕ × Cursor)) → k ≤ 9 → found_kind (kinded k r) ≤ 9
kinded_small k (Some (n, next)) h = h
kinded_small k None h = omega arith

abbrev pub WordSaid : List ℕ → Option (ℕ × ℕ × Cursor) → List ℕ → Type 0
WordSaid s f x = Says s (found_says s f) (found_end f) (word x) × (found_kind f ≤ 9)

pub of_kind_said : (s x : List ℕ) (k : ℕ) (r : Option (ℕ × Cursor)) (f : Option (ℕ × ℕ × Cursor)) {g : Got ℕ} → k ≤ 9 → f ≡ kinded k r → Says s (read_says s r) (read_end r) g
    → word x ≡ item (λ n. k) g → WordSaid s f x
of_kind_said s x k r f {g} h e p w =
    subst (λ (y : Option (ℕ × ℕ × Cursor)). WordSaid s y x) (sym e)
    (rw w (kinded_says s k r g p), kinded_small k r h)

kind_small : (n : ℕ) → kind_of n ≤ 9
unfolding kind_of
kind_small n = go (leb n 65535)
  where
    go : (f : Bool) → cond f 1 2 ≤ 9
    go true = omega arith
    go false = omega arith

pub number_said_as : (s x : List ℕ) (k n : ℕ) (next : Cursor) {g : Got ℕ} → k ≡ kind_of n → g ≡ got n (drop next.at s) → next.at ≤ length s
    → word x ≡ item kind_of g → WordSaid s (Some (k, n, next)) x
number_said_as s x k n next {g} e p h w =
    (record { same = rw (e, w, p); inside = h }, rw e (kind_small n))

pub no_word : (s x : List ℕ) {g : Got ℕ} → g ≡ no → word x ≡ item kind_of g → WordSaid s None x
no_word s x e w = (record { same = rw (w, e); inside = omega arith }, omega arith)

-- what read_word's answer tells
module _ {s : List ℕ} {g : Got Item} (f : Option (ℕ × ℕ × Cursor)) (p : Says s (found_says s f) (found_end f) g) where
  pub word_said : {k n : ℕ} {next : Cursor} → f ≡ Some (k, n, next) → g ≡ got (record { kind = k; value = n }) (drop next.at s)
  word_said q = sym p.same ∙ ap (found_says s) q

  pub word_unsaid : f ≡ None → g ≡ no
  word_unsaid q = sym p.same ∙ ap (found_says s) q

pub word_kind : (f : Option (ℕ × ℕ × Cursor)) {k n : ℕ} {next : Cursor} → found_kind f ≤ 9 → f ≡ Some (k, n, next) → k ≤ 9
word_kind f h q = subst (λ (y : Option (ℕ × ℕ × Cursor)). found_kind y ≤ 9) q h

-- ---- a line

module _ (s : List ℕ) where
  others_over : (most : ℕ) → is_end s ≡ true → others most s ≡ got [] []
  unfolding others
  others_over zero e = rw e
  others_over (suc most) e = rw e

  module _ (e : is_end s ≡ false) where
    others-full : others 0 s ≡ no
    unfolding others
    others-full = rw e

    others-gap : (most : ℕ) → past (bytes " ") s ≡ no → others (suc most) s ≡ no
    unfolding others
    others-gap most f = rw (e, f)

    others-bad : (most : ℕ) (t : List ℕ) → past (bytes " ") s ≡ got tt t → word t ≡ no → others (suc most) s ≡ no
    unfolding others
    others-bad most t f w = rw (e, f, w)

    others-word : (most : ℕ) (t : List ℕ) (x : Item) (r : List ℕ) → past (bytes " ") s ≡ got tt t → word t ≡ got x r → others (suc most) s ≡ cons x (others most r)
    unfolding others
    others-word most t x r f w = rw (e, f, w)

packed_cons : (tag before k : ℕ) (values : List ℕ) (x : Item) (g : Got (List Item))
    → packed tag (with_kind before x.kind) (set values k x.value) (suc k) g ≡ packed tag before values k (cons x g)
packed_cons tag before k values x (got ws t) = refl
packed_cons tag before k values x no = refl

at_place : (s : List ℕ) (i : ℕ) → i < length s → is_end (drop i s) ≡ false
at_place s i h = rw (cut s i h)

-- the loop of `split`: what stands so far, and what is to come
abbrev pub Left : List ℕ → ℕ → ℕ → List ℕ → ℕ → ℕ → Words
Left s tag before values k at = packed tag before values k (others (4096 - k) (drop at s))

module _ (s values : List ℕ) (tag before k at : ℕ) where
  pub left_over : length s ≤ at → record { tag = tag; form = before; values = values } ≡ Left s tag before values k at
  left_over h = rw (over s at h, others_over [] (4096 - k) refl)

  module _ (h : at < length s) where
    pub left-full : k ≡ 4096 → unformed ≡ Left s tag before values k at
    left-full e = rw (e, others-full (drop at s) (at_place s at h))

    module _ (l : k < 4096) where
      pub left-gap : past (bytes " ") (drop at s) ≡ no → unformed ≡ Left s tag before values k at
      left-gap f =
          let m : 4096 - k ≡ suc (4095 - k) = omega arith in
          rw (m, others-gap (drop at s) (at_place s at h) (4095 - k) f)

      pub left-bad : {t : List ℕ} → past (bytes " ") (drop at s) ≡ got tt t → word t ≡ no → unformed ≡ Left s tag before values k at
      left-bad {t} f w =
          let m : 4096 - k ≡ suc (4095 - k) = omega arith in
          rw (m, others-bad (drop at s) (at_place s at h) (4095 - k) t f w)

      pub left_turn : {t : List ℕ} (x : Item) (next : ℕ) → past (bytes " ") (drop at s) ≡ got tt t → word t ≡ got x (drop next s)
          → Left s tag (with_kind before x.kind) (set values k x.value) (k + 1) next ≡ Left s tag before values k at
      left_turn {t} x next f w =
          let m : 4096 - k ≡ suc (4095 - k) = omega arith in
          let n : 4096 - (k + 1) ≡ 4095 - k = omega arith in
          let o : k + 1 ≡ suc k = omega arith in
          rw (n, o, m, others-word (drop at s) (at_place s at h) (4095 - k) t x (drop next s) f w) (packed_cons tag before k values x (others (4095 - k) (drop next s)))

pub words_none : (s : List ℕ) → letters 0 s ≡ no → unformed ≡ words_of s
unfolding words_of
words_none s e = rw e

pub words_tagged : (s : List ℕ) (tag at : ℕ) → letters 0 s ≡ got tag (drop at s) → Left s tag 0 zeros 1 at ≡ words_of s
unfolding words_of
words_tagged s tag at e = rw e

pub below_most : (k : ℕ) → k ≤ 4096 → (k ≡ 4096 → ⊥) → k < 4096
below_most k h n = ⊎_elim (λ l. absurd (n (omega arith))) (λ l. l) (split 4096 k)

-- ---- a word's value

-- a number that is converted where the type holds it, and 0 where it does not
pub fitting_from : {E : Type 0} (most bound v : ℕ) (r : Result ℕ E) → bound ≡ suc most → OkIff r (v < bound) v → result_unwrap_or r 0 ≡ fitting most v
unfolding fitting
fitting_from most bound v (Ok x) e (h, q) = rw (q, le-leb v most (omega arith))
fitting_from most bound v (Err k) e n = rw (lt-leb v most (omega (arith, n)))

pub above_from : {E : Type 0} (v : ℕ) (r : Result ℤ E) → OkIff r (SFits w32 (pos v)) (pos v) → result_ok r ≡ whole_of false v
unfolding whole_of
above_from v (Ok x) (h, q) = let l : v ≤ 2147483647 = omega (arith, h.sfits) in rw (q, le-leb v 2147483647 l)
above_from v (Err k) n =
    ⊎_elim (λ l. absurd (n (word_fits (pos v) l))) (λ l. rw (lt-leb v 2147483647 l)) (split v 2147483647)

pub below_nought : (v : ℕ) → v ≡ 0 → Some (pos 0) ≡ whole_of true v
unfolding whole_of
below_nought v e = rw e

pub below_fits : (v : ℕ) → (v ≡ 0 → ⊥) → v ≤ 2147483648 → Some (negsuc (v - 1)) ≡ whole_of true v
unfolding whole_of
below_fits zero n h = absurd (n refl)
below_fits (suc v) n h = let e : suc v - 1 ≡ v = omega arith in rw (e, le-leb v 2147483647 (omega arith))

pub below_large : (v : ℕ) → 2147483648 < v → None ≡ whole_of true v
unfolding whole_of
below_large zero h = absurd (let bad : ⊥ = omega arith in bad)
below_large (suc v) h = rw (lt-leb v 2147483647 (omega arith))
