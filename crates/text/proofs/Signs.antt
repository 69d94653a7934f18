-- Whole numbers with a minus sign below zero, both ways. Assumes nothing.
use Prim.Native.Nat.{ℕ, zero, suc, ◌+◌, ◌-◌, ◌≤◌, ◌<◌, ◌/◌, ◌%◌, ◌^◌}
use mathlib.Core.Path.{◌≡◌, refl, sym, ap, ◌∙◌}
use mathlib.Core.Bool.{Bool, true, false}
use mathlib.Core.List.{List, [], ◌∷◌, ◌++◌}
use native.Mathlib.Nat.{mod-lt, zero-add}
use native.Mathlib.Omega.{arith}
use borrow.Author.Tests.{ne_eqb, eqb-true}
use lib.Dec.{eqb}
use lib.IntN.{ℤ, pos, negsuc, ◌-ℤ◌}
use lib.ListN.{drop}
use lib.Seq.{drop-drop}
use mir.Syntax.{w32}
use mir.Val.{SFits, to_z}
use mir.ValLaws.{to_z_pos}
use Rattle.text.specs.Digits.{mark, worth, digits, signed_digits, starts_digit, starts, Got, got, no, decimal, above, below, signed}
use Rattle.text.proofs.Marks.{worth_mark}
use Rattle.text.proofs.Runs.{never, run_suc}
use Rattle.text.proofs.Decimals.{has_fewest, digits_fewest, decimal_digits, digits_decimal}

-- a number of an i32
abbrev pub Word : ℤ → Type 0
Word (pos n) = n ≤ 2147483647
Word (negsuc n) = n ≤ 2147483647

-- no digit is a minus sign
mark_minus : (d : ℕ) → d < 16 → mark d ≡ 45 → ⊥
unfolding worth
mark_minus d h e = let w = sym (worth_mark d h) ∙ ap worth e in omega arith

digits_plain : (n : ℕ) (s : List ℕ) → starts 45 (digits n ++ s) ≡ false
digits_plain n s =
    let w = has_fewest n in
    let d = n / 10 ^ w.k % 10 in
    let l : d < 10 = mod-lt (n / 10 ^ w.k) (omega arith) in
    ap (λ (x : List ℕ). starts 45 (x ++ s)) (digits_fewest n w.k w.fewest ∙ run_suc 10 w.k n)
    ∙ ne_eqb (mark d) 45 (mark_minus d (omega arith))

pub signed_plain : (s : List ℕ) → starts 45 s ≡ false → signed s ≡ above (decimal 2147483647 s)
unfolding signed
signed_plain s e = rw e

pub signed_minus : (s : List ℕ) → starts 45 s ≡ true → signed s ≡ below (decimal 2147483648 (drop 1 s))
unfolding signed
signed_minus s e = rw e

-- the same of a text from a place on
pub behind_minus : (s : List ℕ) (i : ℕ) → starts 45 (drop i s) ≡ true → below (decimal 2147483648 (drop (i + 1) s)) ≡ signed (drop i s)
behind_minus s i e = ap (λ (y : List ℕ). below (decimal 2147483648 y)) (sym (drop-drop 1 i s)) ∙ sym (signed_minus (drop i s) e)

-- reading what was written gives the number, and stops right after it
pub signed_digits_law : (z : ℤ) (s : List ℕ) → Word z → starts_digit s ≡ false → signed (signed_digits z ++ s) ≡ got z s
signed_digits_law (pos n) s h f = signed_plain (digits n ++ s) (digits_plain n s) ∙ ap above (decimal_digits 2147483647 n s h f)
signed_digits_law (negsuc n) s h f = signed_minus (45 ∷ (digits (suc n) ++ s)) refl ∙ ap below (decimal_digits 2147483648 (suc n) s (omega arith) f)

-- what is read is the writing of the number, with no digit after it
pub record SignedDigits (s : List ℕ) (z : ℤ) (t : List ℕ) : Type 0 where
  pub word : Word z
  pub text : s ≡ signed_digits z ++ t
  pub ends : starts_digit t ≡ false

from_above : (s : List ℕ) (g : Got ℕ) (z : ℤ) (t : List ℕ) → decimal 2147483647 s ≡ g → above g ≡ got z t → SignedDigits s z t
from_above s (got n u) z t e q =
    let a : pos n ≡ z = cc in
    let b : u ≡ t = cc in
    let r = digits_decimal 2147483647 s n u e in
    rw (← a, ← b) (record { word = r.most; text = r.text; ends = r.ends })
from_above s no z t e q = absurd (never q)

from_below : (s : List ℕ) (g : Got ℕ) (z : ℤ) (t : List ℕ) → decimal 2147483648 s ≡ g → below g ≡ got z t → SignedDigits (45 ∷ s) z t
from_below s (got zero u) z t e q = absurd (never q)
from_below s (got (suc n) u) z t e q =
    let a : negsuc n ≡ z = cc in
    let b : u ≡ t = cc in
    let r = digits_decimal 2147483648 s (suc n) u e in
    let m = r.most in
    rw (← a, ← b) (record { word = omega arith; text = ap (λ (x : List ℕ). 45 ∷ x) r.text; ends = r.ends })
from_below s no z t e q = absurd (never q)

pub digits_signed : (s : List ℕ) (z : ℤ) (t : List ℕ) → signed s ≡ got z t → SignedDigits s z t
digits_signed [] z t e = from_above [] (decimal 2147483647 []) z t refl (sym (signed_plain [] refl) ∙ e)
digits_signed (b ∷ s) z t e = go (eqb b 45) refl
  where
    go : (f : Bool) → eqb b 45 ≡ f → SignedDigits (b ∷ s) z t
    go true f =
        let x = eqb-true b 45 f in
        let q : signed (45 ∷ s) ≡ got z t = ap (λ (y : ℕ). signed (y ∷ s)) (sym x) ∙ e in
        rw x (from_below s (decimal 2147483648 s) z t refl (sym (signed_minus (45 ∷ s) refl) ∙ q))
    go false f = from_above (b ∷ s) (decimal 2147483647 (b ∷ s)) z t refl (sym (signed_plain (b ∷ s) f) ∙ e)

-- ---- the cases of the code

module _ {g : Got ℕ} {n : ℕ} {t : List ℕ} (e : g ≡ got n t) where
  pub above_said : got (pos n) t ≡ above g
  above_said = rw e

  pub below_nought : n ≡ 0 → no ≡ below g
  below_nought z = rw (e, z)

  pub below_said : (n ≡ 0 → ⊥) → got (negsuc (n - 1)) t ≡ below g
  below_said z = rw e (go n z)
    where
      go : (n : ℕ) → (n ≡ 0 → ⊥) → got (negsuc (n - 1)) t ≡ below (got n t)
      go zero z = absurd (z refl)
      go (suc n) z = let f : suc n - 1 ≡ n = omega arith in rw f

pub no_number : {g : Got ℕ} → g ≡ no → (no ≡ above g) × (no ≡ below g)
no_number e = (rw e, rw e)

-- ---- whole numbers of the machine

pub word_fits : (z : ℤ) → Word z → SFits w32 z
word_fits (pos n) h = record { sfits = omega arith }
word_fits (negsuc n) h = record { sfits = omega arith }

pub from_zero_is : (n : ℕ) → n ≤ 2147483647 → to_z w32 n ≡ pos n
from_zero_is n h = to_z_pos w32 n (omega arith)

less_one : (n : ℕ) → negsuc 0 -ℤ pos n ≡ negsuc n
less_one zero = refl
less_one (suc n) = ap (λ (x : ℕ). negsuc (suc x)) (zero-add n)

pub below_zero_is : (n : ℕ) → n ≤ 2147483647 → negsuc 0 -ℤ to_z w32 n ≡ negsuc n
below_zero_is n h = rw (from_zero_is n h) (less_one n)
