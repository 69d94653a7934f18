-- Digits as bytes, both ways. Assumes nothing.
use Prim.Native.Nat.{ℕ, ◌≤◌, ◌<◌}
use mathlib.Core.Path.{◌≡◌, sym, ap, ◌∙◌, subst}
use mathlib.Core.Bool.{Bool, true, cond, and-false}
use mathlib.Core.Logic.{⊎_elim}
use native.Mathlib.Omega.{arith}
use lib.Dec.{T, ltb, eqb, eqb→eq}
use borrow.Author.Tests.{lt-ltb, lt-leb}
use Rattle.paper.proofs.Tests.{split, at}
use Rattle.text.specs.Digits.{mark, worth, digit}

-- the byte of a digit is worth the digit
abbrev right_mark : ℕ → Bool
right_mark d = eqb (worth (mark d)) d

pub worth_mark : (d : ℕ) → d < 16 → worth (mark d) ≡ d
unfolding worth mark
worth_mark d h = eqb→eq (worth (mark d)) d (at right_mark 16 tt d h)

pub digit_mark : (base d : ℕ) → base ≤ 16 → d < base → digit base (mark d) ≡ true
digit_mark base d h l = let e : d < 16 = omega arith in rw (worth_mark d e) (lt-ltb d base l)

-- no digit stands above f
pub worth_past : (b : ℕ) → 103 ≤ b → worth b ≡ 16
unfolding worth
worth_past b h =
    let p = lt-leb b 57 (omega arith) in
    let q = lt-leb b 102 (omega arith) in
    rw (p, q, and-false, and-false)

-- a byte that is worth a digit is the byte of that digit
abbrev right_byte : ℕ → Bool
right_byte b = cond (ltb (worth b) 16) (eqb (mark (worth b)) b) true

low : (b : ℕ) → b < 103 → T (right_byte b)
unfolding worth mark
low b h = at right_byte 103 tt b h

pub mark_worth : (b : ℕ) → worth b < 16 → mark (worth b) ≡ b
mark_worth b h =
    ⊎_elim (λ l. absurd (let bad : ⊥ = omega (arith, worth_past b l) in bad))
    (λ l. eqb→eq (mark (worth b)) b (subst (λ (f : Bool). T (cond f (eqb (mark (worth b)) b) true)) (lt-ltb (worth b) 16 h) (low b l)))
    (split 103 b)

-- of the digits only nought is written 0
pub mark_nought : (d : ℕ) → d < 16 → mark d ≡ 48 → d ≡ 0
unfolding worth
mark_nought d h e = sym (worth_mark d h) ∙ ap worth e
