-- Cells in whole weeks: how many there are, what stands before the first day, and what the page holds. Assumes nothing.
use Prim.Native.Nat.{ℕ, zero, suc, ◌+◌, ◌-◌, ◌*◌, ◌%◌, ◌≤◌, ◌<◌}
use mathlib.Core.Path.{◌≡◌, refl, sym, ap, ◌∙◌}
use mathlib.Core.List.{List, [], ◌∷◌, ◌++◌, append_assoc}
use native.Mathlib.Omega.{arith}
use lib.ListN.{length, get_or, take, drop, replicate, length-append, length-replicate, replicate-append-replicate}
use lib.Seq.{get_or-take, get_or-drop, sets, sets-eq, take_at, drop_at}
use Rattle.festivals.specs.Months.{each}
use Rattle.festivals.proofs.Moons.{each_length}
use Rattle.grid.specs.Cells.{blank, to_fill, weeks, joined}

-- ---- lists of cells

joined_append : {A : Type 0} (a b : List (List A)) → joined (a ++ b) ≡ joined a ++ joined b
unfolding joined
joined_append [] b = refl
joined_append (l ∷ a) b = ap (λ z. l ++ z) (joined_append a b) ∙ sym (append_assoc l (joined a) (joined b))

joined_blanks : (k : ℕ) → joined (replicate k blank) ≡ replicate (k * 12) 0
unfolding joined
joined_blanks zero = refl
joined_blanks (suc k) =
    let e : suc k * 12 ≡ 12 + k * 12 = omega arith in
    rw (joined_blanks k, e) (replicate-append-replicate 12 (k * 12) 0)

-- cells of twelve numbers each
pub joined_length : (f : ℕ → List ℕ) → ((d : ℕ) → length (f d) ≡ 12) → (k n : ℕ) → length (joined (each f k n)) ≡ n * 12
unfolding each joined
joined_length f h k zero = refl
joined_length f h k (suc n) = rw length-append (omega (arith, h k, joined_length f h (k + 1) n))

-- ---- weeks

pub weeks_length : (lead : ℕ) (days : List (List ℕ)) → length (weeks lead days) ≡ lead + length days + to_fill (lead + length days)
unfolding weeks
weeks_length lead days = simp (length-append, length-replicate)

-- the cells are a multiple of seven
pub weeks_whole : (lead : ℕ) (days : List (List ℕ)) → length (weeks lead days) % 7 ≡ 0
weeks_whole lead days = rw weeks_length (omega arith)

-- so many blanks stand before the first day, and the days come next
pub weeks_lead : (lead : ℕ) (days : List (List ℕ)) → take lead (weeks lead days) ≡ replicate lead blank
unfolding weeks
weeks_lead lead days = rw append_assoc (take_at (replicate lead blank) _ lead (length-replicate lead blank))

-- the first day's cell follows the blanks
pub weeks_days : (lead : ℕ) (days : List (List ℕ)) → take (length days) (drop lead (weeks lead days)) ≡ days
unfolding weeks
weeks_days lead days =
    rw append_assoc
    (ap (take (length days)) (drop_at (replicate lead blank) _ lead (length-replicate lead blank)) ∙ take_at days _ (length days) refl)

pub weeks_at : (lead d : ℕ) (days : List (List ℕ)) (z : List ℕ) → d < length days → get_or (weeks lead days) (lead + d) z ≡ get_or days d z
weeks_at lead d days z h =
    sym (get_or-drop lead (weeks lead days) d z)
    ∙ sym (get_or-take (length days) (drop lead (weeks lead days)) d z h)
    ∙ ap (λ (l : List (List ℕ)). get_or l d z) (weeks_days lead days)

-- and blanks follow them
pub weeks_tail : (lead : ℕ) (days : List (List ℕ)) → drop (lead + length days) (weeks lead days) ≡ replicate (to_fill (lead + length days)) blank
unfolding weeks
weeks_tail lead days =
    drop_at (replicate lead blank ++ days) _ (lead + length days) (length-append (replicate lead blank) days ∙ ap (λ (k : ℕ). k + length days) (length-replicate lead blank))

-- ---- the page

abbrev zeros : ℕ → List ℕ
zeros n = replicate n 0

take_zeros : (k n : ℕ) → k ≤ n → take k (zeros n) ≡ zeros k
take_zeros k n h =
    let e : n ≡ k + (n - k) = omega arith in
    ap (λ (m : ℕ). take k (zeros m)) e ∙ ap (take k) (sym (replicate-append-replicate k (n - k) 0)) ∙ take_at (zeros k) (zeros (n - k)) k (length-replicate k 0)

drop_zeros : (k n : ℕ) → k ≤ n → drop k (zeros n) ≡ zeros (n - k)
drop_zeros k n h =
    let e : n ≡ k + (n - k) = omega arith in
    ap (λ (m : ℕ). drop k (zeros m)) e ∙ ap (drop k) (sym (replicate-append-replicate k (n - k) 0)) ∙ drop_at (zeros k) (zeros (n - k)) k (length-replicate k 0)

-- a run stored in zeros, with so many zeros before and after
in_zeros : (i f size : ℕ) (vs : List ℕ) → i + length vs + f ≤ size → take (i + length vs + f) (sets (zeros size) i vs) ≡ zeros i ++ vs ++ zeros f
in_zeros i f size vs h =
    let k = i + length vs in
    let fits : k ≤ length (zeros size) = rw length-replicate (omega arith) in
    let g : size - k ≡ f + (size - k - f) = omega arith in
    let whole : sets (zeros size) i vs ≡ (zeros i ++ vs ++ zeros f) ++ zeros (size - k - f) =
    sets-eq vs (zeros size) i fits
    ∙ ap (λ (z : List ℕ). z ++ vs ++ drop k (zeros size)) (take_zeros i size (omega arith))
    ∙ ap (λ (z : List ℕ). zeros i ++ vs ++ z) (drop_zeros k size (omega arith) ∙ ap zeros g ∙ sym (replicate-append-replicate f (size - k - f) 0))
    ∙ sym (append_assoc (zeros i ++ vs) (zeros f) (zeros (size - k - f))) in
    let n : length (zeros i ++ vs ++ zeros f) ≡ k + f = simp (length-append, length-replicate) in
    ap (take (k + f)) whole ∙ take_at (zeros i ++ vs ++ zeros f) _ (k + f) n

-- the days' numbers in a page of zeros, from the place of the first on: the front of the page is the month in weeks
pub laid : (size lead : ℕ) (days : List (List ℕ)) → length (joined days) ≡ length days * 12 → (lead + length days + to_fill (lead + length days)) * 12 ≤ size
    → take ((lead + length days + to_fill (lead + length days)) * 12) (sets (zeros size) (lead * 12) (joined days)) ≡ joined (weeks lead days)
unfolding weeks
laid size lead days n h =
    let f = to_fill (lead + length days) in
    let e : (lead + length days + f) * 12 ≡ lead * 12 + length (joined days) + f * 12 = omega arith in
    rw e
    (in_zeros (lead * 12) (f * 12) size (joined days) (omega arith)
    ∙ sym (joined_append (replicate lead blank ++ days) (replicate f blank) ∙ rw (joined_append, joined_blanks lead, joined_blanks f))
    )

-- as many numbers as cells times twelve
pub weeks_numbers : (lead : ℕ) (days : List (List ℕ)) → length (joined days) ≡ length days * 12
    → length (joined (weeks lead days)) ≡ (lead + length days + to_fill (lead + length days)) * 12
unfolding weeks
weeks_numbers lead days n =
    let f = to_fill (lead + length days) in
    rw (joined_append (replicate lead blank ++ days), joined_append (replicate lead blank) days, joined_blanks lead, joined_blanks f)
    (simp (length-append, length-replicate) (omega arith))

-- ---- a month of n days, whose cells are f 0, f 1, ..

module _ (f : ℕ → List ℕ) (lead n : ℕ) where
  pub month_length_law : length (weeks lead (each f 0 n)) ≡ lead + n + to_fill (lead + n)
  month_length_law = rw (each_length f 0 n) at (weeks_length lead (each f 0 n))

  module _ (h : (d : ℕ) → length (f d) ≡ 12) where
    twelve : length (joined (each f 0 n)) ≡ length (each f 0 n) * 12
    twelve = rw (each_length f 0 n) (joined_length f h 0 n)

    pub month-numbers : length (joined (weeks lead (each f 0 n))) ≡ (lead + n + to_fill (lead + n)) * 12
    month-numbers = rw (each_length f 0 n) at (weeks_numbers lead (each f 0 n) twelve)

    pub month-laid : (size : ℕ) → (lead + n + to_fill (lead + n)) * 12 ≤ size
        → take ((lead + n + to_fill (lead + n)) * 12) (sets (replicate size 0) (lead * 12) (joined (each f 0 n))) ≡ joined (weeks lead (each f 0 n))
    month-laid size k = rw (each_length f 0 n) at (laid size lead (each f 0 n) twelve (rw (each_length f 0 n) k))
