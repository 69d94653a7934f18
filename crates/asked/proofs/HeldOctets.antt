-- The bytes of a line `octets`: each turn of the loop over plain variables, and that what is held is what the line has. Assumes nothing.
use Rattle.std.specs.Prelude.{None, Option, Some}
use Prim.Native.Nat.{ℕ, zero, suc, ◌+◌, ◌-◌, ◌*◌, ◌≤◌, ◌<◌}
use mathlib.Core.Path.{◌≡◌, refl, sym, ◌∙◌, subst}
use mathlib.Core.Bool.{Bool, true, false, cond}
use mathlib.Core.List.{List, [], ◌∷◌}
use native.Mathlib.Nat.{add-zero, zero-add}
use native.Mathlib.Numerals.{add-one}
use native.Mathlib.Omega.{arith}
use borrow.Author.Tests.{lt-ltb}
use lib.ListN.{length, get_or, take, drop, set, replicate}
use lib.Seq.{sets, take-suc, length-sets}
use Rattle.paper.proofs.Stores.{front_of}
use Rattle.text.specs.Digits.{Got, got, no, found, past, fixed, digit, worth, is_end}
use Rattle.text.specs.Quoted.{bytes}
use Rattle.text.specs.declared.reading.Cursor.{Cursor}
use Rattle.text.proofs.Runs.{never, run_fixed}
use Rattle.text.specs.Written.{Wrote}
use Rattle.text.proofs.Texts.{cut, over}
use Rattle.text.proofs.Writes.{then}
use Rattle.asked.specs.Octets.{led, octets, known, octets_in, held, octet_of, first_of, bytes_of, read_value}
use Rattle.asked.specs.declared.bytes.Octets.{Octets}

-- ---- a byte

-- two digits as the last of sixteen
abbrev padded : ℕ → ℕ → List ℕ
padded a b = set (set (replicate 16 48) 14 a) 15 b

padded_is : (a b : ℕ) → fixed 16 16 0 (padded a b) ≡ fixed 16 2 0 (a ∷ b ∷ [])
unfolding worth
padded_is a b = refl

module _ (a b : ℕ) (t : List ℕ) where
  pair_got : (n : ℕ) {rest : List ℕ} → fixed 16 2 0 (a ∷ b ∷ []) ≡ got n rest → got n t ≡ fixed 16 2 0 (a ∷ b ∷ t)
  pair_got n {rest} e = go (digit 16 a) (digit 16 b) ((0 * 16 + worth a) * 16 + worth b) e
    where
      go : (f g : Bool) (v : ℕ) → cond f (cond g (got v []) no) no ≡ got n rest → got n t ≡ cond f (cond g (got v t) no) no
      go true true v e = let q : n ≡ v = cc in rw q
      go true false v e = absurd (never e)
      go false g v e = absurd (never e)

  pair_no : fixed 16 2 0 (a ∷ b ∷ []) ≡ no → no ≡ fixed 16 2 0 (a ∷ b ∷ t)
  pair_no e = go (digit 16 a) (digit 16 b) ((0 * 16 + worth a) * 16 + worth b) e
    where
      go : (f g : Bool) (v : ℕ) → cond f (cond g (got v []) no) no ≡ no → no ≡ cond f (cond g (got v t) no) no
      go true true v e = absurd (never (sym e))
      go true false v e = refl
      go false g v e = refl

module _ (s : List ℕ) (at : ℕ) where
  pub octet_over : length s ≤ at → no ≡ fixed 16 2 0 (drop at s)
  octet_over h = rw (over s at h)

  pub octet_half : at < length s → length s ≤ at + 1 → no ≡ fixed 16 2 0 (drop at s)
  octet_half h l = rw (cut s at h, over s (at + 1) l) (go (digit 16 (get_or s at 0)))
    where
      go : (f : Bool) → ◌≡◌ {A = Got ℕ} no (cond f no no)
      go true = refl
      go false = refl

  module _ (h : at + 2 ≤ length s) where
    both : drop at s ≡ get_or s at 0 ∷ get_or s (at + 1) 0 ∷ drop (at + 2) s
    both =
        let l : at < length s = omega arith in
        let k : at + 1 < length s = omega arith in
        let e : at + 1 + 1 ≡ at + 2 = omega arith in
        rw (cut s at l, cut s (at + 1) k, e)

    pub octet-said : (n : ℕ) {rest : List ℕ} → fixed 16 16 0 (padded (get_or s at 0) (get_or s (at + 1) 0)) ≡ got n rest → got n (drop (at + 2) s) ≡ fixed 16 2 0 (drop at s)
    octet-said n e = rw both (pair_got (get_or s at 0) (get_or s (at + 1) 0) (drop (at + 2) s) n (sym (padded_is (get_or s at 0) (get_or s (at + 1) 0)) ∙ e))

    pub octet-unsaid : fixed 16 16 0 (padded (get_or s at 0) (get_or s (at + 1) 0)) ≡ no → no ≡ fixed 16 2 0 (drop at s)
    octet-unsaid e = rw both (pair_no (get_or s at 0) (get_or s (at + 1) 0) (drop (at + 2) s) (sym (padded_is (get_or s at 0) (get_or s (at + 1) 0)) ∙ e))

-- and it is a byte
pub octet_small : (s : List ℕ) (n : ℕ) (t : List ℕ) → fixed 16 2 0 s ≡ got n t → n ≤ 255
octet_small s n t e = let r = run_fixed 16 2 0 s n t (omega arith) e in omega (arith, r.small, r.value)

pub value_small : (r : Option (ℕ × Cursor)) {n : ℕ} {next : Cursor} → read_value r ≤ 255 → r ≡ Some (n, next) → n ≤ 255
value_small r h q = subst (λ (x : Option (ℕ × Cursor)). read_value x ≤ 255) q h

-- ---- the bytes

-- those to come behind those that stand at the places below k
abbrev pub held_from : ℕ → List ℕ → Option (List ℕ) → Octets
held_from k values (Some bs) = record { count = k + length bs; bytes = sets values k bs }
held_from k values None = held []

held_all : (x : Option (List ℕ)) → held_from 0 (replicate 64 0) x ≡ held (known x)
held_all (Some bs) = rw (zero-add (length bs))
held_all None = refl

led_held : (k b : ℕ) (values : List ℕ) (x : Option (List ℕ)) → held_from (k + 1) (set values k b) x ≡ held_from k values (led b x)
led_held k b values (Some bs) = let e : k + 1 + length bs ≡ k + suc (length bs) = omega arith in rw (e, add-one)
led_held k b values None = refl

-- the bytes from a place on, behind those so far
abbrev pub Left : List ℕ → ℕ → ℕ → List ℕ → Octets
Left s at k values = held_from k values (octets (64 - k) (drop at s))

module _ (s : List ℕ) where
  pub left_first : (at : ℕ) → Left s at 0 (replicate 64 0) ≡ held (known (octets 64 (drop at s)))
  left_first at = held_all (octets 64 (drop at s))

  octets_over : (most : ℕ) → octets most [] ≡ Some []
  unfolding octets
  octets_over zero = refl
  octets_over (suc most) = refl

  module _ (at k : ℕ) (values : List ℕ) where
    pub left_over : length s ≤ at → record { count = k; bytes = values } ≡ Left s at k values
    left_over h = rw (over s at h, octets_over (64 - k), add-zero k)

    module _ (h : at < length s) where
      pub left-full : k ≡ 64 → held [] ≡ Left s at k values
      unfolding octets
      left-full e = rw (e, cut s at h)

      module _ (l : k < 64) where
        one_less : 64 - k ≡ suc (64 - (k + 1))
        one_less = omega arith

        pub left-bad : fixed 16 2 0 (drop at s) ≡ no → held [] ≡ Left s at k values
        unfolding octets
        left-bad e = rw one_less (rw (cut s at h) (rw (rw (cut s at h) at e)))

        pub left_turn : (b next : ℕ) → fixed 16 2 0 (drop at s) ≡ got b (drop next s) → Left s next (k + 1) (set values k b) ≡ Left s at k values
        unfolding octets
        left_turn b next e = led_held k b values (octets (64 - (k + 1)) (drop next s)) ∙ rw one_less (rw (cut s at h) (rw (rw (cut s at h) at e)))

-- ---- a line

pub octets_none : (s : List ℕ) → past (bytes "octets ") s ≡ no → held [] ≡ held (octets_in s)
unfolding octets_in
octets_none s e = rw e

pub octets_some : (s t : List ℕ) → past (bytes "octets ") s ≡ got tt t → held (known (octets 64 t)) ≡ held (octets_in s)
unfolding octets_in
octets_some s t e = rw e

-- ---- stored

pub first_turn : {l m k : List ℕ} {f a b : ℕ} (x : Octets) (i y : ℕ) → Wrote l f (first_of x i) m a → y ≡ octet_of x i → Wrote m a (y ∷ []) k b → Wrote l f (first_of x (i + 1)) k b
first_turn x i y p e q = rw add-one (then p (rw e at q))

-- ---- what is held is what the line has

first_take : (x : Octets) (n : ℕ) → n ≤ 64 → length x.bytes ≡ 64 → first_of x n ≡ take n x.bytes
first_take x zero h l = refl
first_take x (suc n) h l =
    let k : n < 64 = omega arith in
    let i : n < length x.bytes = omega arith in
    let m : n ≤ 64 = omega arith in
    rw (take-suc x.bytes n 0 i, first_take x n m l, lt-ltb n 64 k)

either_most : (t : Bool) (n : ℕ) (a b : Option (List ℕ)) → length (known a) ≤ n → length (known b) ≤ n → length (known (cond t a b)) ≤ n
either_most true n a b p q = p
either_most false n a b p q = q

led_most : (b n : ℕ) (x : Option (List ℕ)) → length (known x) ≤ n → length (known (led b x)) ≤ suc n
led_most b n (Some bs) h = omega arith
led_most b n None h = omega arith

octets_most : (most : ℕ) (s : List ℕ) → length (known (octets most s)) ≤ most
unfolding octets
octets_most zero s = either_most (is_end s) 0 (Some []) None (omega arith) (omega arith)
octets_most (suc most) s =
    either_most (is_end s) (suc most) (Some []) (found (fixed 16 2 0 s) (λ b t. led b (octets most t)) None) (omega arith) (at (fixed 16 2 0 s) (octets_most most))
  where
    at : (g : Got ℕ) → ((t : List ℕ) → length (known (octets most t)) ≤ most) → length (known (found g (λ b t. led b (octets most t)) None)) ≤ suc most
    at (got b t) h = led_most b most (octets most t) (h t)
    at no h = omega arith

line_most : (s : List ℕ) → length (octets_in s) ≤ 64
unfolding octets_in
line_most s = at (past (bytes "octets ") s)
  where
    at : (g : Got (Unit {0})) → length (found g (λ u t. known (octets 64 t)) []) ≤ 64
    at (got u t) = octets_most 64 t
    at no = omega arith

pub held_bytes : (s : List ℕ) → bytes_of (held (octets_in s)) ≡ octets_in s
held_bytes s =
    let bs = octets_in s in
    let h = line_most s in
    first_take (held bs) (length bs) h (length-sets (replicate 64 0) 0 bs) ∙ front_of bs (replicate 64 0) (sets (replicate 64 0) 0 bs) (length bs) refl refl h
