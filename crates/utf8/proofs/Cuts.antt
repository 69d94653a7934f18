-- The laws of the front of a text. Assumes nothing.
use Rattle.std.specs.Prelude.{Some}
use Prim.Native.Nat.{ℕ, zero, suc, ◌+◌, ◌-◌, ◌*◌, ◌≤◌, ◌<◌}
use mathlib.Core.Path.{◌≡◌, refl, sym, ap, ◌∙◌}
use mathlib.Core.Bool.{Bool, true, false, cond, ◌&&◌, true≢false}
use mathlib.Core.List.{List, [], ◌∷◌, ◌++◌}
use native.Mathlib.Omega.{arith}
use borrow.Author.Tests.{leb-true, le-leb, ne_eqb, eqb-true, eqb-false}
use lib.Dec.{leb, eqb}
use lib.ListN.{length, get_or, drop}
use Rattle.paper.proofs.Tests.{and_left, and_right}
use Rattle.text.proofs.Texts.{cut, over}
use Rattle.utf8.specs.Utf8.{follow, low, high, comes, utf8}
use Rattle.utf8.specs.Controls.{control, first_control, missing, clear}
use Rattle.utf8.specs.Characters.{goes_on, characters, front}
use Rattle.utf8.specs.Claims.{Cut}
use Rattle.utf8.proofs.Bytes.{follow_tail, low_tail, high_tail, passed}

-- ---- its laws, case by case

abbrev turned : Bool → Bool → ℕ → ℕ → List ℕ → List ℕ
turned g z most b s = cond g (b ∷ front most s) (cond z [] (b ∷ front (most - 1) s))

pub front_part : (most : ℕ) (s : List ℕ) → Cut s (front most s)
front_part most [] = record { behind = []; same = refl }
front_part most (b ∷ s) = go (goes_on b) (eqb most 0) (front_part most s) (front_part (most - 1) s)
  where
    go : (g z : Bool) → Cut s (front most s) → Cut s (front (most - 1) s) → Cut (b ∷ s) (turned g z most b s)
    go true z p q = record { behind = p.behind; same = ap (λ (t : List ℕ). b ∷ t) p.same }
    go false true p q = record { behind = b ∷ s; same = refl }
    go false false p q = record { behind = q.behind; same = ap (λ (t : List ℕ). b ∷ t) q.same }

pub front_few : (most : ℕ) (s : List ℕ) → characters (front most s) ≤ most
front_few most [] = omega arith
front_few most (b ∷ s) = go (goes_on b) refl (eqb most 0) refl (front_few most s) (front_few (most - 1) s)
  where
    go : (g : Bool) → goes_on b ≡ g → (z : Bool) → eqb most 0 ≡ z → characters (front most s) ≤ most → characters (front (most - 1) s) ≤ most - 1
        → characters (turned g z most b s) ≤ most
    go true g z e p q = rw g p
    go false g true e p q = omega arith
    go false g false e p q = let n = eqb-false most 0 e in rw g (omega arith)

pub front_whole : (most : ℕ) (s : List ℕ) → characters s ≤ most → front most s ≡ s
front_whole most [] h = refl
front_whole most (b ∷ s) h = go (goes_on b) (eqb most 0) refl (front_whole most s) (front_whole (most - 1) s) h
  where
    go : (g z : Bool) → eqb most 0 ≡ z → (characters s ≤ most → front most s ≡ s) → (characters s ≤ most - 1 → front (most - 1) s ≡ s)
        → cond g (characters s) (suc (characters s)) ≤ most → turned g z most b s ≡ b ∷ s
    go true z e p q h = ap (λ (t : List ℕ). b ∷ t) (p h)
    go false true e p q h = absurd (let m = eqb-true most 0 e in let bad : ⊥ = omega arith in bad)
    go false false e p q h = ap (λ (t : List ℕ). b ∷ t) (q (omega arith))

-- ---- without control characters

clear_part : (feed : Bool) (t u : List ℕ) → clear feed (t ++ u) ≡ true → clear feed t ≡ true
clear_part feed [] u h = refl
clear_part feed (b ∷ t) u h = go (control feed b) (clear_part feed t u) h
  where
    go : (c : Bool) → (clear feed (t ++ u) ≡ true → clear feed t ≡ true) → missing (cond c (Some b) (first_control feed (t ++ u))) ≡ true
        → missing (cond c (Some b) (first_control feed t)) ≡ true
    go true ih h = h
    go false ih h = ih h

pub front_plain : (feed : Bool) (most : ℕ) (s : List ℕ) → clear feed s ≡ true → clear feed (front most s) ≡ true
front_plain feed most s h = let p = front_part most s in clear_part feed (front most s) p.behind (ap (clear feed) (sym p.same) ∙ h)

-- ---- of UTF-8

goes_on_law : (b : ℕ) → 128 ≤ b → b ≤ 191 → goes_on b ≡ true
unfolding goes_on
goes_on_law b l h = rw (le-leb 128 b l, le-leb b 191 h)

-- the first byte of a character goes on with none
begins : (b : ℕ) → leb (follow b) 3 ≡ true → goes_on b ≡ false
unfolding goes_on
begins b h = go (goes_on b) refl
  where
    go : (g : Bool) → goes_on b ≡ g → g ≡ false
    go true g =
        let f = follow_tail b (leb-true 128 b (and_left (leb 128 b) (leb b 191) g)) (leb-true b 191 (and_right (leb 128 b) (leb b 191) g)) in
        absurd (let l = leb-true (follow b) 3 h in let bad : ⊥ = omega arith in bad)
    go false g = refl

-- what is to come of a character stays: the front is UTF-8, and not longer than its characters may be
record Stays (k least most : ℕ) (n : ℕ) (s : List ℕ) : Type 0 where
  same : comes k least most (front n s) ≡ true
  short : length (front n s) ≤ k + 4 * n

stays : (k least most n : ℕ) (s : List ℕ) → 128 ≤ least → most ≤ 191 → comes k least most s ≡ true → Stays k least most n s
stays zero least most n [] a z h = record { same = refl; short = omega arith }
stays (suc k) least most n [] a z h = absurd (true≢false (sym h))
stays zero least most n (b ∷ s) a z h = go (eqb n 0) refl (stays (follow b) (low b) (high b) (n - 1) s (low_tail b) (high_tail b) p.1)
  where
    p : (leb (follow b) 3 ≡ true) × (comes (follow b) (low b) (high b) s ≡ true)
    p = passed (leb (follow b) 3) h

    go : (t : Bool) → eqb n 0 ≡ t → Stays (follow b) (low b) (high b) (n - 1) s → Stays 0 least most n (b ∷ s)
    go true t r = let e = begins b p.0 in record { same = rw (e, t); short = rw (e, t) (omega arith) }
    go false t r =
        let e = begins b p.0 in
        let m = eqb-false n 0 t in
        let f = leb-true (follow b) 3 p.0 in
        let l = r.short in
        record { same = rw (e, t, p.0) r.same; short = rw (e, t) (omega arith) }
stays (suc k) least most n (b ∷ s) a z h =
    let p = passed (leb least b && leb b most) h in
    let x = leb-true least b (and_left (leb least b) (leb b most) p.0) in
    let y = leb-true b most (and_right (leb least b) (leb b most) p.0) in
    let g = goes_on_law b (omega arith) (omega arith) in
    let r = stays k 128 191 n s (omega arith) (omega arith) p.1 in
    let l = r.short in
    record { same = rw (g, p.0) r.same; short = rw g (omega arith) }

pub front_utf8 : (most : ℕ) (s : List ℕ) → utf8 s ≡ true → utf8 (front most s) ≡ true
front_utf8 most s h = (stays 0 128 191 most s (omega arith) (omega arith) h).same

pub front_short : (most : ℕ) (s : List ℕ) → utf8 s ≡ true → length (front most s) ≤ 4 * most
front_short most s h = let r = (stays 0 128 191 most s (omega arith) (omega arith) h).short in omega arith
