-- The turns of the loops that find lines of a text. Assumes nothing.
use Prim.Native.Nat.{ℕ, zero, suc, ◌+◌, ◌-◌, ◌≤◌, ◌<◌}
use mathlib.Core.Path.{◌≡◌, refl, ap, sym}
use mathlib.Core.Bool.{Bool, true, false, cond, not}
use mathlib.Core.List.{List, [], ◌∷◌}
use native.Mathlib.Omega.{arith}
use borrow.Author.Tests.{eq-eqb, ne_eqb}
use lib.Dec.{eqb}
use lib.ListN.{length, get_or, take, drop}
use Rattle.std.specs.List.{take_while}
use Rattle.std.proofs.lemmas.List.Sums.{take_while-cons}
use Rattle.text.specs.Fronts.{up_to}
use Rattle.text.proofs.Texts.{cut, over}
use Rattle.wall.specs.Words.{next_line, line_from}

module _ (s : List ℕ) (i : ℕ) where
  pub next_over : length s ≤ i → drop (length s) s ≡ next_line (drop i s)
  next_over h = rw (over s i h, over s (length s) (omega arith))

  pub next_found : i < length s → get_or s i 0 ≡ 10 → drop (i + 1) s ≡ next_line (drop i s)
  next_found h e = rw (cut s i h, eq-eqb (get_or s i 0) 10 e)

  pub next_turn : i < length s → (get_or s i 0 ≡ 10 → ⊥) → next_line (drop (i + 1) s) ≡ next_line (drop i s)
  next_turn h n = rw (cut s i h, ne_eqb (get_or s i 0) 10 n)

pub line_turn : (left : ℕ) (s : List ℕ) → 0 < left → line_from (left - 1) (next_line s) ≡ line_from left s
line_turn zero s l = absurd (let bad : ⊥ = omega arith in bad)
line_turn (suc left) s l = let e : suc left - 1 ≡ left = omega arith in rw e

pub line_here : (left : ℕ) (s : List ℕ) → left ≤ 0 → s ≡ line_from left s
line_here zero s h = refl
line_here (suc left) s h = absurd (let bad : ⊥ = omega arith in bad)

-- what stands before a byte, of the first bytes of a text
pub up_taken : (stop most : ℕ) (s : List ℕ) → take (length (take_while (λ b. not (eqb b stop)) (take most s))) s ≡ up_to stop most s
up_taken stop zero s = refl
up_taken stop (suc most) [] = refl
up_taken stop (suc most) (x ∷ s) = rw (take_while-cons (λ b. not (eqb b stop)) x (take most s)) (go (eqb x stop) (up_taken stop most s))
  where
    go : (b : Bool) → take (length (take_while (λ b. not (eqb b stop)) (take most s))) s ≡ up_to stop most s
        → take (length (cond (not b) (x ∷ take_while (λ b. not (eqb b stop)) (take most s)) [])) (x ∷ s) ≡ cond b [] (x ∷ up_to stop most s)
    go true e = refl
    go false e = ap (λ (t : List ℕ). x ∷ t) e
