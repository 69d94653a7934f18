-- How the numbers of a line are read: each turn of the loops over plain variables. Assumes nothing.
use Rattle.std.specs.Prelude.{Ok}
use Prim.Native.Nat.{ℕ, zero, suc, ◌+◌, ◌-◌, ◌≤◌, ◌<◌}
use mathlib.Core.Path.{◌≡◌, refl, sym, ap, ◌∙◌}
use mathlib.Core.Bool.{Bool, true, false, cond}
use mathlib.Core.List.{List, [], ◌∷◌}
use mathlib.Core.Logic.{⊎_elim}
use native.Mathlib.Numerals.{one-add}
use native.Mathlib.Omega.{arith}
use borrow.Author.Tests.{eq-eqb, ne_eqb, eqb-true}
use lib.Dec.{eqb}
use lib.ListN.{length, take, drop, length-drop, set}
use lib.Seq.{sets, take_all, drop-drop}
use Rattle.std.specs.Bool.{◌==◌}
use Rattle.std.specs.List.{prefix_len, take_while}
use Rattle.std.proofs.lemmas.List.{length-take}
use Rattle.std.proofs.lemmas.List.Folds.{length-prefix_len}
use Rattle.paper.proofs.Stores.{front_of}
use Rattle.paper.proofs.Tests.{split}
use Rattle.text.specs.Digits.{Got, got, no, found, decimal}
use Rattle.text.proofs.Runs.{never}
use Rattle.text.proofs.Decimals.{digits_decimal}
use Rattle.fields.specs.declared.row.Judged.TheVariants as judged
use Rattle.fields.specs.declared.row.Unread.TheVariants.{NoNumber, TooMany}
use Rattle.fields.specs.declared.row.Row.{Row}
use Rattle.fields.specs.Line.{skip, ends, word_ends, number, Words, are, no_number, too_many, front, words_to, numbers_of, words_of, zeros, faulty, packed, row_of, counted_as, judged_as}

-- ---- spaces

skip_spaces : (s : List ℕ) → drop (prefix_len (λ b. b == 32) s) s ≡ skip s
skip_spaces [] = refl
skip_spaces (b ∷ s) = go (b == 32) (skip_spaces s)
  where
    go : (f : Bool) → drop (prefix_len (λ b. b == 32) s) s ≡ skip s
        → drop (cond f (1 + prefix_len (λ b. b == 32) s) 0) (b ∷ s) ≡ cond f (skip s) (b ∷ s)
    go true e = rw one-add e
    go false e = refl

-- so many spaces stand from a place on, and are skipped
pub spaces_skipped : (s : List ℕ) (from n : ℕ) → from ≤ length s → n ≡ length (take_while (λ b. b == 32) (take (length s - from) (drop from s)))
    → (from + n ≤ length s) × (drop (from + n) s ≡ skip (drop from s))
spaces_skipped s from n h e =
    let t = drop from s in
    let m : length t ≡ length s - from = length-drop from s in
    let w : take (length s - from) t ≡ t = take_all (length s - from) t (omega arith) in
    let k : n ≡ prefix_len (λ b. b == 32) t = rw w at e ∙ length-prefix_len (λ (b : ℕ). b == 32) t in
    let l = length-take n t in (
      omega (arith, e, length-take (prefix_len (λ (b : ℕ). b == 32) (take (length s - from) t)) (take (length s - from) t), length-take (length s - from) t),
      sym (drop-drop n from s) ∙ ap (λ (i : ℕ). drop i t) k ∙ skip_spaces t,
    )

-- ---- a number

module _ (s : List ℕ) where
  pub number_none : decimal 65535 s ≡ no → no ≡ number s
  unfolding number
  number_none e = rw e

  module _ {n : ℕ} {t : List ℕ} (e : decimal 65535 s ≡ got n t) where
    pub number-glued : word_ends t ≡ false → no ≡ number s
    unfolding number
    number-glued f = rw (e, f)

    pub number-whole : word_ends t ≡ true → got n (skip t) ≡ number s
    unfolding number
    number-whole f = rw (e, f)

pub number_small : (s : List ℕ) (n : ℕ) (t : List ℕ) → number s ≡ got n t → n ≤ 65535
unfolding number
number_small s n t e = go (decimal 65535 s) refl e
  where
    word : (f : Bool) (m : ℕ) (u : List ℕ) → decimal 65535 s ≡ got m u → cond f (got m (skip u)) no ≡ got n t → n ≤ 65535
    word true m u d q = let w : m ≡ n = cc in omega (arith, (digits_decimal 65535 s m u d).most)
    word false m u d q = absurd (never q)

    go : (g : Got ℕ) → decimal 65535 s ≡ g → found g (λ m u. cond (word_ends u) (got m (skip u)) no) no ≡ got n t → n ≤ 65535
    go (got m u) d q = word (word_ends u) m u d q
    go no d q = absurd (never q)

-- ---- a line

module _ (s : List ℕ) where
  words_over : (most : ℕ) → ends s ≡ true → words_to most s ≡ are []
  unfolding words_to
  words_over zero e = rw e
  words_over (suc most) e = rw e

  module _ (e : ends s ≡ false) where
    words-full : words_to 0 s ≡ too_many
    unfolding words_to
    words-full = rw e

    words-bad : (most : ℕ) → number s ≡ no → words_to (suc most) s ≡ no_number
    unfolding words_to
    words-bad most f = rw (e, f)

    words_more : (most n : ℕ) (t : List ℕ) → number s ≡ got n t → words_to (suc most) s ≡ front n (words_to most t)
    unfolding words_to
    words_more most n t f = rw (e, f)

packed_front : (values : List ℕ) (k n : ℕ) (w : Words) → packed (set values k n) (suc k) w ≡ packed values k (front n w)
packed_front values k n (are ns) =
    let e : suc k + length ns ≡ k + suc (length ns) = omega arith in
    rw e
packed_front values k n no_number = refl
packed_front values k n too_many = refl

-- the loop of `read_row`: what stands so far, and what is to come
abbrev pub Left : List ℕ → List ℕ → ℕ → ℕ → Row
Left s values k at = packed values k (words_to (13 - k) (drop at s))

pub left_first : (s : List ℕ) (at : ℕ) → drop at s ≡ skip (drop 0 s) → Left s zeros 0 at ≡ row_of s
unfolding row_of
left_first s at e = ap (λ (t : List ℕ). packed zeros 0 (words_to 13 t)) e

module _ (s values : List ℕ) (k at : ℕ) where
  pub left_over : ends (drop at s) ≡ true → record { form = Ok k; values = values } ≡ Left s values k at
  left_over e =
      let z : k + 0 ≡ k = omega arith in
      rw (words_over (drop at s) (13 - k) e, z)

  module _ (e : ends (drop at s) ≡ false) where
    pub left-full : k ≡ 13 → faulty TooMany ≡ Left s values k at
    left-full f = rw (f, words-full (drop at s) e)

    module _ (l : k < 13) where
      pub left-bad : number (drop at s) ≡ no → faulty NoNumber ≡ Left s values k at
      left-bad f =
          let m : 13 - k ≡ suc (12 - k) = omega arith in
          rw (m, words-bad (drop at s) e (12 - k) f)

      pub left_turn : (n next : ℕ) → number (drop at s) ≡ got n (drop next s) → Left s (set values k n) (k + 1) next ≡ Left s values k at
      left_turn n next f =
          let m : 13 - k ≡ suc (12 - k) = omega arith in
          let o : 13 - (k + 1) ≡ 12 - k = omega arith in
          let p : k + 1 ≡ suc k = omega arith in
          rw (o, p, m, words_more (drop at s) e (12 - k) n (drop next s) f) (packed_front values k n (words_to (12 - k) (drop next s)))

pub below_thirteen : (k : ℕ) → k ≤ 13 → (k ≡ 13 → ⊥) → k < 13
below_thirteen k h n = ⊎_elim (λ l. absurd (n (omega arith))) (λ l. l) (split 13 k)

-- ---- what a line is

module _ (wanted k : ℕ) where
  pub judged_blank : k ≡ 0 → judged.Blank ≡ counted_as wanted k
  unfolding counted_as
  judged_blank z = rw (eq-eqb k 0 z)

  module _ (z : k ≡ 0 → ⊥) where
    pub judged-good : k ≡ wanted → judged.Good ≡ counted_as wanted k
    unfolding counted_as
    judged-good w = rw (ne_eqb k 0 z, eq-eqb k wanted w)

    pub judged-other : (k ≡ wanted → ⊥) → judged.OtherCount ≡ counted_as wanted k
    unfolding counted_as
    judged-other w = rw (ne_eqb k 0 z, ne_eqb k wanted w)

-- ---- the numbers that were wanted

-- a line that has the numbers that are wanted has them in front
good_front : (w : ℕ) (v : Words) → w ≤ 13 → judged_as w (packed zeros 0 v).form ≡ judged.Good → take w (packed zeros 0 v).values ≡ numbers_of v
unfolding counted_as
good_front w (are ns) h e = go (eqb (0 + length ns) 0) (eqb (0 + length ns) w) refl e
  where
    go : (a b : Bool) → eqb (0 + length ns) w ≡ b → cond a judged.Blank (cond b judged.Good judged.OtherCount) ≡ judged.Good
        → take w (sets zeros 0 ns) ≡ ns
    go true b f q = absurd (let z : ◌≡◌ {A = ℕ} 0 1 = cc in let n : ⊥ = omega arith in n)
    go false true f q =
        let l : length ns ≡ w = omega (arith, eqb-true (0 + length ns) w f) in
        front_of ns zeros (sets zeros 0 ns) w refl l h
    go false false f q = absurd (let z : ◌≡◌ {A = ℕ} 0 1 = cc in let n : ⊥ = omega arith in n)
good_front w no_number h e = absurd (let z : ◌≡◌ {A = ℕ} 0 1 = cc in let n : ⊥ = omega arith in n)
good_front w too_many h e = absurd (let z : ◌≡◌ {A = ℕ} 0 1 = cc in let n : ⊥ = omega arith in n)

pub front_numbers : (w : ℕ) (s : List ℕ) → w ≤ 13 → judged_as w (row_of s).form ≡ judged.Good → take w (row_of s).values ≡ numbers_of (words_of s)
unfolding row_of
front_numbers w s h e = good_front w (words_of s) h e
