-- The number in front of a line: its cases, and that the line is the writing of it and of its text. Assumes nothing.
use Rattle.std.specs.Prelude.{Option, Some}
use Prim.Native.Nat.{ℕ, ◌≤◌}
use mathlib.Core.Path.{◌≡◌, refl, ◌∙◌}
use mathlib.Core.Bool.{Bool, true, false}
use mathlib.Core.List.{List, [], ◌∷◌, ◌++◌}
use lib.Dec.{eqb}
use lib.ListN.{drop}
use Rattle.text.specs.Digits.{worth, starts_digit, Got, got, no, found, past, digits, decimal}
use Rattle.text.specs.Quoted.{bytes}
use Rattle.text.proofs.Runs.{never}
use Rattle.text.proofs.Decimals.{decimal_other, decimal_digits, digits_decimal}
use Rattle.text.proofs.Texts.{append_past}
use Rattle.naming.specs.Names.{headed, text_of}

module _ (s : List ℕ) (at : ℕ) (z : at ≡ 0) where
  pub headed_none : decimal 65535 (drop at s) ≡ no → no ≡ headed s
  unfolding headed
  headed_none e = let f : decimal 65535 s ≡ no = rw z at e in rw f

  module _ {n : ℕ} {t : List ℕ} (e : decimal 65535 (drop at s) ≡ got n t) where
    pub headed-unequal : past (bytes "=") t ≡ no → no ≡ headed s
    unfolding headed
    headed-unequal q = let f : decimal 65535 s ≡ got n t = rw z at e in rw (f, q)

    pub headed-is : {text : List ℕ} → past (bytes "=") t ≡ got tt text → got n text ≡ headed s
    unfolding headed
    headed-is q = let f : decimal 65535 s ≡ got n t = rw z at e in rw (f, q)

pub headed_empty : headed [] ≡ no
unfolding headed
headed_empty = rw (decimal_other 65535 [] refl refl)

-- what is read is the writing of the number, an equals sign and the text
pub record Headed (s : List ℕ) (n : ℕ) (text : List ℕ) : Type 0 where
  pub most : n ≤ 65535
  pub same : s ≡ digits n ++ (bytes "=" ++ text)

pub headed_only : (s : List ℕ) (n : ℕ) (text : List ℕ) → headed s ≡ got n text → Headed s n text
unfolding headed
headed_only s n text e = go (decimal 65535 s) refl e
  where
    second : (m : ℕ) (t : List ℕ) → decimal 65535 s ≡ got m t → (g : Got (Unit {0})) → past (bytes "=") t ≡ g
        → found g (λ u r. got m r) no ≡ got n text → Headed s n text
    second m t p (got u r) q k =
        let a : m ≡ n = cc in
        let b : r ≡ text = cc in
        let d = digits_decimal 65535 s m t p in
        record { most = rw a at d.most; same = d.text ∙ rw (append_past (bytes "=") t r q, a, b) }
    second m t p no q k = absurd (never k)

    go : (g : Got ℕ) → decimal 65535 s ≡ g → found g (λ m t. found (past (bytes "=") t) (λ u r. got m r) no) no ≡ got n text → Headed s n text
    go (got m t) p k = second m t p (past (bytes "=") t) refl k
    go no p k = absurd (never k)

pub equals_ends : (t : List ℕ) → starts_digit (61 ∷ t) ≡ false
unfolding worth
equals_ends t = refl

pub headed_digits : (n : ℕ) (text : List ℕ) → n ≤ 65535 → headed (digits n ++ (bytes "=" ++ text)) ≡ got n text
unfolding headed
headed_digits n text h = rw (decimal_digits 65535 n (bytes "=" ++ text) h (equals_ends text))

-- ---- the line with a number

module _ (number : ℕ) (s : List ℕ) (other : Option (List ℕ)) where
  pub text_none : headed s ≡ no → text_of number s other ≡ other
  unfolding text_of
  text_none e = rw e

  pub text_differs : {n : ℕ} {t : List ℕ} → headed s ≡ got n t → eqb n number ≡ false → text_of number s other ≡ other
  unfolding text_of
  text_differs e f = rw (e, f)

  pub text_here : {n : ℕ} {t : List ℕ} → headed s ≡ got n t → eqb n number ≡ true → text_of number s other ≡ Some t
  unfolding text_of
  text_here e f = rw (e, f)

-- what stands in a line does not hang on the lines after it
pub data Texts (number : ℕ) (s : List ℕ) : Type 0 where
  here : (t : List ℕ) → ((other : Option (List ℕ)) → text_of number s other ≡ Some t) → Texts number s
  else : ((other : Option (List ℕ)) → text_of number s other ≡ other) → Texts number s

pub texts_of : (number : ℕ) (s : List ℕ) → Texts number s
texts_of number s = go (headed s) refl
  where
    same : {n : ℕ} {t : List ℕ} → headed s ≡ got n t → (f : Bool) → eqb n number ≡ f → Texts number s
    same {n} {t} e true f = here t (λ o. text_here number s o e f)
    same {n} {t} e false f = else (λ o. text_differs number s o e f)

    go : (g : Got ℕ) → headed s ≡ g → Texts number s
    go (got n t) e = same e (eqb n number) refl
    go no e = else (λ o. text_none number s o e)
