-- How many numbers the lists of a state have, and where they stand. Assumes nothing.
use Prim.Native.Nat.{ℕ, ◌+◌, ◌≤◌, ◌<◌}
use mathlib.Core.Path.{◌≡◌, sym, ap, ◌∙◌}
use mathlib.Core.List.{List, ◌++◌, map}
use native.Mathlib.Omega.{arith}
use borrow.Author.Tests.{le-leb, lt-leb}
use lib.ListN.{length, take, drop, replicate, length-map, length-append, length-take}
use lib.Seq.{sets}
use Rattle.paper.proofs.Stores.{sets_append, sets_front}
use Rattle.kept.specs.declared.Kept.{Kept}
use Rattle.kept.specs.Held.{padded}
use Rattle.kept.proofs.Records.{zeros_front}
use Rattle.shelf.specs.Numbers.{halves, head_of, numbers_of}
use Rattle.shelf.specs.Inner.{placed}
use Rattle.shelf.proofs.Halves.{length_halves}

-- the length of an array that a function is given
pub sized : (l : List ℕ) (n : ℕ) → length (map (λ (v : ℕ). v) l) ≡ n → length l ≡ n
sized l n e = sym (length-map l (λ (v : ℕ). v)) ∙ e

-- a state's arrays
pub record Sized (k : Kept) : Type 0 where
  pub rows : length k.rows ≡ 1664
  pub rules : length k.rules ≡ 2560
  pub before : length k.store.years.before.days ≡ 64
  pub this : length k.store.years.this.days ≡ 64

-- ---- written

-- two runs one after the other are one run
run : (l m vs ws : List ℕ) (i j : ℕ) → m ≡ sets l i vs → i + length vs ≡ j → sets m j ws ≡ sets l i (vs ++ ws)
run l m vs ws i j p e = ap (λ (z : List ℕ). sets z j ws) p ∙ ap (λ (n : ℕ). sets (sets l i vs) n ws) (sym e) ∙ sym (sets_append vs ws l i)

module _ (k : Kept) (s : Sized k) where
  abbrev before : List ℕ
  before = halves k.store.years.before.days

  abbrev this : List ℕ
  this = halves k.store.years.this.days

  pub length_numbers : length (numbers_of k) ≡ 4488
  unfolding numbers_of
  length_numbers =
      omega (
        arith,
        length-append k.rows (k.rules ++ (before ++ this)),
        length-append k.rules (before ++ this),
        length-append before this,
        length_halves k.store.years.before.days,
        length_halves k.store.years.this.days,
        s.rows,
        s.rules,
        s.before,
        s.this,
      )

  -- the five runs of a writing
  pub written : (a head b c d e f : List ℕ) → 4488 ≤ length a → head ≡ head_of k → b ≡ sets a 0 head → c ≡ sets b 8 k.rows → d ≡ sets c 1672 k.rules → e ≡ sets d 4232 before → f ≡ sets e 4360 this
      → f ≡ numbers_of k ++ drop 4488 a
  unfolding numbers_of
  written a head b c d e f h g p q r u v =
      v
      ∙ run d e before this 4232 4360 u (omega (arith, length_halves k.store.years.before.days, s.before))
      ∙ run c d k.rules (before ++ this) 1672 4232 r (omega (arith, s.rules))
      ∙ run b c k.rows (k.rules ++ (before ++ this)) 8 1672 q (omega (arith, s.rows))
      ∙ run a b (head_of k) (k.rows ++ (k.rules ++ (before ++ this))) 0 8 (p ∙ ap (sets a 0) g) (omega arith)
      ∙ sets_front (numbers_of k) a (omega (arith, length_numbers))
      ∙ ap (λ (n : ℕ). numbers_of k ++ drop n a) length_numbers

-- what a test leaves
module _ (k : Kept) (a : List ℕ) where
  pub no_room : length a < 4488 → placed k a ≡ a
  unfolding placed
  no_room h = rw (lt-leb 4488 (length a) h)

  pub long_rows : 4488 ≤ length a → 65535 < k.row_len → placed k a ≡ a
  unfolding placed
  long_rows h l = rw (le-leb 4488 (length a) h, lt-leb k.row_len 65535 l)

  pub long_rules : 4488 ≤ length a → k.row_len ≤ 65535 → 65535 < k.rule_len → placed k a ≡ a
  unfolding placed
  long_rules h l m = rw (le-leb 4488 (length a) h, le-leb k.row_len 65535 l, lt-leb k.rule_len 65535 m)

  pub fitting : 4488 ≤ length a → k.row_len ≤ 65535 → k.rule_len ≤ 65535 → placed k a ≡ numbers_of k ++ drop 4488 a
  unfolding placed
  fitting h l m = rw (le-leb 4488 (length a) h, le-leb k.row_len 65535 l, le-leb k.rule_len 65535 m)

-- ---- read

module _ (n : ℕ) (l m : List ℕ) (e : m ≡ take n l) where
  pub part_fits : length m ≤ n
  part_fits = omega (arith, length-take n l, ap length e)

  pub part_read : (r : List ℕ) → r ≡ sets (replicate n 0) 0 m → r ≡ padded n (take n l)
  part_read r p = p ∙ zeros_front n m part_fits ∙ ap (padded n) e
