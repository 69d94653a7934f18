-- Texts joined or written one after the other, what is left of them at each turn; and how long the words are. Assumes nothing.
use Prim.Native.Nat.{ℕ, ◌+◌, ◌*◌, ◌^◌, ◌≤◌, ◌<◌}
use mathlib.Core.Path.{◌≡◌, refl, sym, ap, ◌∙◌}
use mathlib.Core.Bool.{Bool, true, false, cond}
use mathlib.Core.List.{List, [], ◌∷◌, ◌++◌}
use native.Mathlib.Omega.{arith}
use lib.Ieee.{Float, binary64, is_nan, to_bits}
use lib.ListN.{length, length-append}
use Rattle.text.specs.Digits.{run, places, digits}
use Rattle.text.specs.Quoted.{bytes}
use Rattle.text.specs.Written.{Wrote}
use Rattle.text.proofs.Runs.{length_run}
use Rattle.text.proofs.Decimals.{places_most}
use Rattle.text.proofs.Writes.{then}
use Rattle.output.specs.Floats.{float_text}
use Rattle.output.specs.Gathered.{Gathered, gathered, room, stored, joins, Joined}
use Rattle.output.specs.Octets.{octets_text}
use Rattle.output.specs.declared.Out.{Out}

-- ---- joined

joins_append : (g : Gathered) (xs ys : List ℕ) → joins g (xs ++ ys) ≡ joins (joins g xs) ys
joins_append g [] ys = refl
joins_append g (x ∷ xs) ys = joins_append (stored 32 g (x ∷ []) true) xs ys

-- a byte that is written where there is room
pub one_joined : {l : List ℕ} {o : Out} {at b : ℕ} {m : List ℕ} {r : Out} → at ≡ room 32 l o.at → Wrote l at (b ∷ []) m r.at → r.begun ≡ true → Joined l o (b ∷ []) m r
unfolding stored
one_joined e w b = record { same = rw (w.stored, w.end, b, e) }

-- what is left, joined to what is gathered now, makes the whole
pub record Rest (whole : Gathered) (text l : List ℕ) (o : Out) : Type 0 where
  pub same : joins (gathered l o) text ≡ whole

pub rest_turn : {whole : Gathered} {xs ys l : List ℕ} {o : Out} {m : List ℕ} {p : Out} → Rest whole (xs ++ ys) l o → Joined l o xs m p → Rest whole ys m p
rest_turn {whole} {xs} {ys} {l} {o} a b = record { same = ap (λ (g : Gathered). joins g ys) b.same ∙ sym (joins_append (gathered l o) xs ys) ∙ a.same }

-- ---- written

-- what is left, written from here on, makes the whole
pub record Ahead (l₀ : List ℕ) (i₀ : ℕ) (whole l : List ℕ) (i : ℕ) (text : List ℕ) : Type 0 where
  pub all : {m : List ℕ} {j : ℕ} → Wrote l i text m j → Wrote l₀ i₀ whole m j

pub ahead_turn : {l₀ : List ℕ} {i₀ : ℕ} {whole l : List ℕ} {i : ℕ} {xs ys m : List ℕ} {j : ℕ} → Ahead l₀ i₀ whole l i (xs ++ ys) → Wrote l i xs m j → Ahead l₀ i₀ whole m j ys
ahead_turn a b = record { all = λ w. a.all (then b w) }

-- ---- digits

-- two for each byte
pub length_octets : (bs : List ℕ) → length (octets_text bs) ≡ length bs * 2
length_octets [] = refl
length_octets (b ∷ bs) = omega (arith, length-append (run 16 2 b) (octets_text bs), length_run 16 2 b, length_octets bs)

-- no number and no float takes more than thirty bytes
pub digits_short : (n : ℕ) → n < 2 ^ 64 → length (digits n) ≤ 30
digits_short n h = omega (arith, length_run 10 (places n) n, places_most n h)

pub negative_short : (n : ℕ) → n < 2 ^ 64 → length (bytes "-" ++ digits n) ≤ 30
negative_short n h = omega (arith, length-append (bytes "-") (digits n), length_run 10 (places n) n, places_most n h)

pub float_short : (x : Float) → length (float_text x) ≤ 30
unfolding float_text
float_short x = either (is_nan x)
  where
    either : (t : Bool) → length (cond t (bytes "nan") (bytes "0x" ++ run 16 16 (to_bits binary64 x))) ≤ 30
    either true = omega arith
    either false = omega (arith, length-append (bytes "0x") (run 16 16 (to_bits binary64 x)), length_run 16 16 (to_bits binary64 x))
