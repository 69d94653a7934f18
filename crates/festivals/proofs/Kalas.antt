-- The kalas by their numbers. Assumes nothing.
use Rattle.std.specs.Prelude.{Option}
use Prim.Native.Nat.{ℕ, zero, suc, ◌+◌, ◌≤◌}
use mathlib.Core.Path.{◌≡◌, refl, sym, ap, ◌∙◌}
use mathlib.Core.Bool.{Bool}
use native.Mathlib.Omega.{arith}
use lib.Dec.{eqb}
use lib.Ieee.{Float}
use Rattle.panchanga.specs.declared.Kala.{Kala}
use Rattle.panchanga.specs.declared.Kala.TheVariants.{Udaya, Madhyanna, Aparahna, Pradosh, Nishita, Begins}
use Rattle.panchanga.specs.Kalas.{kala_at, is_nishita, nishita_between}
use Rattle.panchanga.specs.Answers.{mapped}
use Rattle.rules.specs.Sky.{Sky}
use Rattle.rules.specs.Days.{begins, rank, asked_day}
use Rattle.festivals.specs.Kathmandu.{kala_number, kala_named, is_begins, sun_on, kala_of, night_of}

pub named_number : (k : Kala) → kala_named (kala_number k) ≡ k
named_number Udaya = refl
named_number Madhyanna = refl
named_number Aparahna = refl
named_number Pradosh = refl
named_number Nishita = refl
named_number Begins = refl

pub nishita_is : (k : Kala) → eqb (kala_number k) 4 ≡ is_nishita k
nishita_is Udaya = refl
nishita_is Madhyanna = refl
nishita_is Aparahna = refl
nishita_is Pradosh = refl
nishita_is Nishita = refl
nishita_is Begins = refl

pub begins_is : (k : Kala) → eqb (kala_number k) 5 ≡ is_begins k
begins_is Udaya = refl
begins_is Madhyanna = refl
begins_is Aparahna = refl
begins_is Pradosh = refl
begins_is Nishita = refl
begins_is Begins = refl

-- a number that is none of the first five names the last
pub named_last : (k : ℕ) → (k ≡ 0 → ⊥) → (k ≡ 1 → ⊥) → (k ≡ 2 → ⊥) → (k ≡ 3 → ⊥) → (k ≡ 4 → ⊥) → Begins ≡ kala_named k
named_last zero a b c d e = absurd (a refl)
named_last (suc zero) a b c d e = absurd (b refl)
named_last (suc (suc zero)) a b c d e = absurd (c refl)
named_last (suc (suc (suc zero))) a b c d e = absurd (d refl)
named_last (suc (suc (suc (suc zero)))) a b c d e = absurd (e refl)
named_last (suc (suc (suc (suc (suc k))))) a b c d e = refl

pub number_named : (k : ℕ) → k ≤ 5 → kala_number (kala_named k) ≡ k
number_named zero h = refl
number_named (suc zero) h = refl
number_named (suc (suc zero)) h = refl
number_named (suc (suc (suc zero))) h = refl
number_named (suc (suc (suc (suc zero)))) h = refl
number_named (suc (suc (suc (suc (suc zero))))) h = refl
number_named (suc (suc (suc (suc (suc (suc k)))))) h = absurd (omega arith)

-- whether a number means the day of beginning, by the kala that it names
pub begins_named : (k : ℕ) (n : Kala) (b : Bool) → k ≤ 5 → n ≡ kala_named k → is_begins n ≡ b → eqb k begins ≡ b
begins_named k n b h e q = ap (λ (z : ℕ). eqb z begins) (sym (number_named k h)) ∙ begins_is (kala_named k) ∙ ap is_begins (sym e) ∙ q

-- the question in the words of the number
pub asked_named : {I : Type 0} (s : Sky I) (k : ℕ) (n : Kala) (b e : I) (d : ℕ) → k ≤ 5 → n ≡ kala_named k → asked_day s (rank (kala_number n)) b e (kala_number n) d ≡ asked_day s (rank k) b e k d
asked_named s k n b e d h q = ap (λ (z : ℕ). asked_day s (rank z) b e z d) (ap kala_number q ∙ number_named k h)

-- ---- the instants of a day, by the sun's events
pub kala_on : (k : Kala) (n : ℕ) (o : Option (Float × Float)) → o ≡ sun_on n → mapped (λ z. kala_at k z.0 z.1) o ≡ kala_of (kala_number k) n
unfolding kala_of
kala_on k n o q = rw (q, named_number k)

pub night_on : (n : ℕ) (o p w : Option (Float × Float)) → o ≡ sun_on n → p ≡ sun_on (n + 1) → w ≡ nishita_between o p → w ≡ night_of n
unfolding night_of
night_on n o p w h q r = rw (r, h, q)
