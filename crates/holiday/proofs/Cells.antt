-- Cells of twelve numbers that stand one after the other in a buffer: where each of them stands. Assumes nothing.
use Prim.Native.Nat.{ℕ, zero, suc, ◌+◌, ◌*◌, ◌<◌}
use mathlib.Core.Path.{◌≡◌, refl, sym, ap, ◌∙◌}
use mathlib.Core.List.{List, [], ◌∷◌, ◌++◌, append_assoc}
use native.Mathlib.Omega.{arith}
use lib.ListN.{length, get_or, take, drop, replicate}
use lib.Seq.{take_at, drop_at, drop-drop}
use Rattle.festivals.specs.Months.{each}
use Rattle.grid.specs.Cells.{blank, to_fill, weeks, joined}
use Rattle.holiday.specs.Claims.{cell_in}

-- every cell has twelve numbers
unfoldable pub Twelve : List (List ℕ) → Type 0
Twelve [] = Unit
Twelve (l ∷ ls) = (length l ≡ 12) × Twelve ls

twelve_append : (a b : List (List ℕ)) → Twelve a → Twelve b → Twelve (a ++ b)
unfolding Twelve
twelve_append [] b p q = q
twelve_append (l ∷ a) b p q = (p.0, twelve_append a b p.1 q)

twelve_blanks : (k : ℕ) → Twelve (replicate k blank)
unfolding Twelve
twelve_blanks zero = tt
twelve_blanks (suc k) = (refl, twelve_blanks k)

twelve_each : (f : ℕ → List ℕ) → ((d : ℕ) → length (f d) ≡ 12) → (k n : ℕ) → Twelve (each f k n)
unfolding Twelve each
twelve_each f h k zero = tt
twelve_each f h k (suc n) = (h k, twelve_each f h (k + 1) n)

-- a month in weeks
pub twelve_weeks : (f : ℕ → List ℕ) → ((d : ℕ) → length (f d) ≡ 12) → (lead n : ℕ) → Twelve (weeks lead (each f 0 n))
unfolding weeks
twelve_weeks f h lead n = twelve_append _ _ (twelve_append _ _ (twelve_blanks lead) (twelve_each f h 0 n)) (twelve_blanks (to_fill (lead + length (each f 0 n))))

-- cell k stands at number 12 k, whatever follows the cells
pub joined_at : (ls : List (List ℕ)) (rest : List ℕ) (k : ℕ) → Twelve ls → k < length ls → cell_in (joined ls ++ rest) k ≡ get_or ls k blank
unfolding Twelve joined
joined_at [] rest k p h = absurd (omega arith)
joined_at (l ∷ ls) rest zero p h = rw append_assoc (take_at l (joined ls ++ rest) 12 p.0)
joined_at (l ∷ ls) rest (suc k) p h =
    let e : suc k * 12 ≡ 12 + k * 12 = omega arith in
    let next : drop 12 (l ++ joined ls ++ rest) ≡ joined ls ++ rest = rw append_assoc (drop_at l (joined ls ++ rest) 12 p.0) in
    ap (λ (n : ℕ). take 12 (drop n (l ++ joined ls ++ rest))) e
    ∙ ap (take 12) (sym (drop-drop (k * 12) 12 (l ++ joined ls ++ rest)) ∙ ap (drop (k * 12)) next)
    ∙ joined_at ls rest k p.1 (omega arith)
