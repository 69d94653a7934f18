-- What is plainly wrong with a line: each case over plain variables. Assumes nothing.
use Rattle.std.proofs.Common.{◌≡◌, ℕ, suc, ◌+◌, ◌<◌, ◌≤◌, Bool, true, false, eqb, cond, List, [], ◌∷◌, ◌++◌, length, get_or, drop, refl, ◌∙◌, arith, Option, Some, None, eq-eqb, ne_eqb}
use Rattle.text.specs.Digits.{is_end, got, no, found, past}
use Rattle.text.specs.Quoted.{bytes}
use Rattle.text.proofs.Texts.{cut, over}
use Rattle.rulefile.specs.Files.{rule_form}
use Rattle.faults.specs.declared.lines.Reason.{Reason}
use Rattle.faults.specs.Lines.{key_text, number_reason, end_byte, key_reason}

-- ---- the last byte of a line

module _ (s : List ℕ) (b : Option ℕ) (i : ℕ) where
  pub end_over : length s ≤ i → end_byte b (drop i s) ≡ b
  end_over h = rw (over s i h)

  module _ (h : i < length s) where
    pub end-here : get_or s i 0 ≡ 10 → end_byte b (drop i s) ≡ b
    end-here e = rw (cut s i h, eq-eqb (get_or s i 0) 10 e)

    pub end-turn : (get_or s i 0 ≡ 10 → ⊥) → end_byte b (drop i s) ≡ end_byte (Some (get_or s i 0)) (drop (i + 1) s)
    end-turn n = rw (cut s i h, ne_eqb (get_or s i 0) 10 n)

-- ---- the end of a text

pub empty_end : (s : List ℕ) → eqb (length s) 0 ≡ is_end s
empty_end [] = refl
empty_end (b ∷ s) = ne_eqb (suc (length s)) 0 (λ e. omega arith)

-- ---- the number behind the key

-- one text and then another
past_two : (v w s : List ℕ) → past (v ++ w) s ≡ found (past v s) (λ u t. past w t) no
past_two [] w s = refl
past_two (a ∷ v) w [] = refl
past_two (a ∷ v) w (b ∷ s) = go (eqb a b) (past_two v w s)
  where
    go : (f : Bool) → past (v ++ w) s ≡ found (past v s) (λ u t. past w t) no
        → cond f (past (v ++ w) s) no ≡ found (cond f (past v s) no) (λ u t. past w t) no
    go true e = e
    go false e = refl

module _ (i : ℕ) (s : List ℕ) where
  pub key_none : past (rule_form.key i) s ≡ no → None ≡ key_reason i s
  unfolding key_reason key_text
  key_none p = rw (past_two (rule_form.key i) (bytes "=") s, p)

  module _ {t : List ℕ} (p : past (rule_form.key i) s ≡ got tt t) where
    pub sign_none : past (bytes "=") t ≡ no → None ≡ key_reason i s
    unfolding key_reason key_text
    sign_none q = rw (past_two (rule_form.key i) (bytes "=") s, p, q)

    pub key_number : {u : List ℕ} {r : Option Reason} → past (bytes "=") t ≡ got tt u → r ≡ number_reason u → r ≡ key_reason i s
    unfolding key_reason key_text
    key_number q e = e ∙ rw (past_two (rule_form.key i) (bytes "=") s, p, q)
