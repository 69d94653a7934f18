-- Holidays among the pairs that stand in a buffer. Assumes nothing.
use Rattle.std.specs.List.{list_any, range_with_len}
use Prim.Native.Nat.{ℕ, zero, suc, ◌+◌, ◌-◌, ◌*◌, ◌≤◌}
use mathlib.Core.Path.{◌≡◌, refl, sym, ap, ◌∙◌}
use mathlib.Core.Bool.{Bool, ◌||◌}
use mathlib.Core.List.{List, [], ◌∷◌, ◌++◌, append_assoc}
use native.Mathlib.Omega.{arith}
use lib.Dec.{eqb}
use lib.ListN.{length, get_or, take, drop}
use lib.Seq.{sets, sets-eq, get_or-drop, drop-drop, drop_at, length-take-le}
use Rattle.gregorian.specs.declared.Date.{Date}
use Rattle.rules.specs.declared.lists.Day.{Day}
use Rattle.rules.specs.Festivals.{Pair, numbers}
use Rattle.rules.proofs.Listed.{numbers_length}
use Rattle.panchanga.specs.declared.lunar.Reading.{Reading}
use Rattle.grid.specs.Cells.{any_holiday, holiday_of, cell_with, day_cell}
use Rattle.grid.specs.Inner.{any_mark}

-- pair by pair
pub any_pair : (xs : List ℕ) (i k : ℕ) → list_any (λ j. eqb (get_or xs (j * 2 + 1) 0) 1) (range_with_len i k) ≡ any_mark xs i k
unfolding any_mark
any_pair xs i zero = refl
any_pair xs i (suc k) = ap (λ (b : Bool). eqb (get_or xs (i * 2 + 1) 0) 1 || b) (any_pair xs (i + 1) k)

-- the marks of a list that stands at pair i on
marks : (l : List Pair) (xs ys : List ℕ) (i : ℕ) → drop (i * 2) xs ≡ numbers l ++ ys → any_mark xs i (length l) ≡ any_holiday l
unfolding any_mark any_holiday
marks [] xs ys i e = refl
marks (a ∷ l) xs ys i e =
    let here : get_or xs (i * 2 + 1) 0 ≡ a.1 = sym (get_or-drop (i * 2) xs 1 0) ∙ ap (λ (z : List ℕ). get_or z 1 0) e in
    let f : (i + 1) * 2 ≡ i * 2 + 2 = omega arith in
    let later : drop ((i + 1) * 2) xs ≡ numbers l ++ ys = ap (λ (k : ℕ). drop k xs) f ∙ sym (drop-drop 2 (i * 2) xs) ∙ ap (drop 2) e in
    rw (here, marks l xs ys (i + 1) later)

-- a list stored from pair i on, where it fits
stored_marks : (l : List Pair) (xs : List ℕ) (i : ℕ) → i * 2 + length (numbers l) ≤ length xs → any_mark (sets xs (i * 2) (numbers l)) i (length l) ≡ any_holiday l
stored_marks l xs i h =
    marks l (sets xs (i * 2) (numbers l)) (drop (i * 2 + length (numbers l)) xs) i
    (ap (drop (i * 2)) (sets-eq (numbers l) xs (i * 2) h) ∙ drop-after (take (i * 2) xs) (numbers l) _ (i * 2) (length-take-le (i * 2) xs (omega arith)))
  where
    drop-after : (a b c : List ℕ) (n : ℕ) → length a ≡ n → drop n (a ++ b ++ c) ≡ b ++ c
    drop-after a b c n e = rw append_assoc (drop_at a (b ++ c) n e)

-- what is told of a day's list by where it ends and by its marks
pub shown : (l : List Pair) (xs ys : List ℕ) (i e : ℕ) → ys ≡ sets xs (i * 2) (numbers l) → e ≡ i + length l → e * 2 ≤ length xs
    → (e - i ≡ length l) × (any_mark ys i (e - i) ≡ any_holiday l)
shown l xs ys i e p q h =
    let n : e - i ≡ length l = omega arith in
    (n, rw (n, p) (stored_marks l xs i (omega (arith, numbers_length l))))

-- a day's cell from what was told of its list
pub cell_of_law : (today : Date) (q : Day) (l : List Pair) (r v : Reading) (n : ℕ) (h : Bool) → n ≡ length l → h ≡ holiday_of q.number l → v ≡ r → cell_with today q n h v ≡ day_cell today q l r
cell_of_law today q l r v n h a b e = rw (a, b, e)

pub cell_length : (today : Date) (q : Day) (n : ℕ) (h : Bool) (r : Reading) → length (cell_with today q n h r) ≡ 12
unfolding cell_with
cell_length today q n h r = refl

-- the same run at the same place
pub sets_same : (l vs ws : List ℕ) (i j : ℕ) → i ≡ j → vs ≡ ws → sets l i vs ≡ sets l j ws
sets_same l vs ws i j e f = rw (e, f)
