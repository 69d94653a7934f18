-- What a line is, case by case. Assumes nothing.
use Rattle.std.specs.Prelude.{None, Option, Some, Ok, Err, ◌==◌}
use Prim.Native.Nat.{ℕ, ◌-◌, ◌≤◌, ◌<◌}
use mathlib.Core.Path.{◌≡◌, refl, sym, ap, ◌∙◌}
use mathlib.Core.Bool.{Bool, true, false, cond, true≢false}
use mathlib.Core.List.{List, [], ◌∷◌, ◌++◌}
use native.Mathlib.Omega.{arith}
use borrow.Author.Tests.{leb-true, le-leb, lt-leb}
use lib.Dec.{leb, eqb-suc-zero}
use lib.ListN.{length, take, drop, length-drop}
use lib.Seq.{take_all}
use Rattle.text.specs.Digits.{Got, got, no, found, is_end, digits}
use Rattle.text.specs.Quoted.{bytes}
use Rattle.utf8.specs.Utf8.{utf8}
use Rattle.utf8.specs.Controls.{first_control, missing}
use Rattle.naming.specs.declared.lines.Fault.{Fault}
use Rattle.naming.specs.declared.lines.Fault.TheVariants.{Form, NotGreater, NoText, NotUtf8}
use Rattle.naming.specs.Names.{Name, Judged, is, wrong, headed, cleared, texted, judged, line_of}
use Rattle.naming.specs.Claims.{Good}
use Rattle.naming.proofs.Heads.{Headed, headed_only, headed_digits}

-- ---- the text

pub ends_length : (s : List ℕ) → is_end s ≡ (length s == 0)
ends_length [] = refl
ends_length (b ∷ s) = sym (eqb-suc-zero (length s))

pub ends_filled : (s : List ℕ) → (length s ≡ 0 → ⊥) → is_end s ≡ false
ends_filled [] h = absurd (h refl)
ends_filled (b ∷ s) h = refl

module _ (n : ℕ) (s : List ℕ) where
  pub text_empty : is_end s ≡ true → wrong NoText ≡ texted n s
  unfolding texted
  text_empty e = rw e

  pub text_other : is_end s ≡ false → utf8 s ≡ false → wrong NotUtf8 ≡ texted n s
  unfolding texted
  text_other e u = rw (e, u)

  pub text_cleared : is_end s ≡ false → utf8 s ≡ true → cleared n s (first_control false s) ≡ texted n s
  unfolding texted
  text_cleared e u = rw (e, u)

-- ---- the line

module _ (least : ℕ) (s : List ℕ) where
  pub line_form_law : headed s ≡ no → wrong Form ≡ judged least s
  unfolding judged
  line_form_law e = rw e

  module _ {n : ℕ} {t : List ℕ} (e : headed s ≡ got n t) where
    pub line-less : n < least → wrong NotGreater ≡ judged least s
    unfolding judged
    line-less h = rw (e, lt-leb least n h)

    pub line-text : least ≤ n → texted n t ≡ judged least s
    unfolding judged
    line-text h = rw (e, le-leb least n h)

-- the text as a part of the line
pub line_part : (least : ℕ) (s : List ℕ) (n from : ℕ) → headed s ≡ got n (drop from s) → least ≤ n
    → line_of (texted n (take (length s - from) (drop from s))) ≡ line_of (judged least s)
line_part least s n from e h =
    let l : length (drop from s) ≤ length s - from = omega (arith, length-drop from s) in
    ap (λ (t : List ℕ). line_of (texted n t)) (take_all (length s - from) (drop from s) l) ∙ ap line_of (line-text least s e h)

-- ---- a line that is a name

no_name : {x : Name} {fault : Fault} → wrong fault ≡ is x → ⊥
no_name e = let z : ◌≡◌ {A = ℕ} 0 1 = cc in omega arith

pub record Accepted (least : ℕ) (s : List ℕ) (x : Name) : Type 0 where
  pub greater : least ≤ x.number
  pub good : Good x
  pub same : s ≡ digits x.number ++ (bytes "=" ++ x.text)

module _ (least : ℕ) (s : List ℕ) (x : Name) (n : ℕ) (t : List ℕ) (h : Headed s n t) (l : least ≤ n) where
  accepted_text : texted n t ≡ is x → Accepted least s x
  unfolding texted
  accepted_text e = go (is_end t) refl (utf8 t) refl (first_control false t) refl e
    where
      go : (a : Bool) → is_end t ≡ a → (b : Bool) → utf8 t ≡ b → (o : Option ℕ) → first_control false t ≡ o
          → cond a (wrong NoText) (cond b (cleared n t o) (wrong NotUtf8)) ≡ is x → Accepted least s x
      go true a b p o q e = absurd (no_name e)
      go false a false p o q e = absurd (no_name e)
      go false a true p (Some c) q e = absurd (no_name e)
      go false a true p None q e =
          let y : record { number = n; text = t } ≡ x = cc in
          let r : Accepted least s (record { number = n; text = t }) = record {
            greater = l;
            good = record { small = h.most; filled = a; encoded = p; plain = ap missing q };
            same = h.same;
          } in
          rw y at r

pub accepted : (least : ℕ) (s : List ℕ) (x : Name) → judged least s ≡ is x → Accepted least s x
unfolding judged
accepted least s x e = go (headed s) refl e
  where
    more : (n : ℕ) (t : List ℕ) → headed s ≡ got n t → (f : Bool) → leb least n ≡ f → cond f (texted n t) (wrong NotGreater) ≡ is x → Accepted least s x
    more n t p true f e = accepted_text least s x n t (headed_only s n t p) (leb-true least n f) e
    more n t p false f e = absurd (no_name e)

    go : (g : Got ℕ) → headed s ≡ g → found g (λ n t. cond (leb least n) (texted n t) (wrong NotGreater)) (wrong Form) ≡ is x → Accepted least s x
    go (got n t) p e = more n t p (leb least n) refl e
    go no p e = absurd (no_name e)

-- a good name is one in its line
pub name_judged : (least : ℕ) (x : Name) → least ≤ x.number → Good x → judged least (digits x.number ++ (bytes "=" ++ x.text)) ≡ is x
name_judged least x h g =
    let s = digits x.number ++ (bytes "=" ++ x.text) in
    sym (line-text least s (headed_digits x.number x.text g.small) h) ∙ sym (text_cleared x.number x.text g.filled g.encoded)
    ∙ ap (cleared x.number x.text) (none-missing (first_control false x.text) g.plain)
  where
    none-missing : (o : Option ℕ) → missing o ≡ true → o ≡ None
    none-missing (Some b) e = absurd (true≢false (sym e))
    none-missing None e = refl

-- ---- what the code's answer tells of it

pub wrong_line : (j : Judged) (fault : Fault) → Err fault ≡ line_of j → j ≡ wrong fault
wrong_line (is x) fault e = absurd (let z : ◌≡◌ {A = ℕ} 0 1 = cc in let bad : ⊥ = omega arith in bad)
wrong_line (wrong f) fault e = cc

pub record NameIs (j : Judged) (number : ℕ) : Type 0 where
  pub name : Name
  pub same : j ≡ is name
  pub number_same : number ≡ name.number

pub name_line : (j : Judged) (number : ℕ) → Ok number ≡ line_of j → NameIs j number
name_line (is x) number e = record { name = x; same = refl; number_same = cc }
name_line (wrong f) number e = absurd (let z : ◌≡◌ {A = ℕ} 0 1 = cc in let bad : ⊥ = omega arith in bad)
