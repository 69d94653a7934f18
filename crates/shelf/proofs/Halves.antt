-- Days as halves and back: a turn of each loop, and that reading undoes writing. Assumes nothing.
use Prim.Native.Nat.{ℕ, zero, suc, ◌+◌, ◌-◌, ◌*◌, ◌/◌, ◌%◌, ◌≤◌, ◌<◌}
use mathlib.Core.Path.{◌≡◌, refl, sym, ap, ◌∙◌}
use mathlib.Core.List.{List, [], ◌∷◌, ◌++◌, append-nil}
use native.Mathlib.Omega.{arith}
use lib.ListN.{length, get_or, drop, set, replicate, length-replicate, drop_of_length-le}
use lib.Seq.{sets, drop-cons, drop-drop, get_or-drop}
use Rattle.paper.proofs.Stores.{sets_front}
use Rattle.shelf.specs.Numbers.{halves}
use Rattle.shelf.specs.Inner.{wholes}

-- ---- written

-- a turn of the loop: what is left to store
pub halves_turn : (l ds : List ℕ) (at i x y : ℕ) → i < length ds → x ≡ get_or ds i 0 % 65536 → y ≡ get_or ds i 0 / 65536
    → sets (set (set l (at + i * 2) x) (at + i * 2 + 1) y) (at + (i + 1) * 2) (halves (drop (i + 1) ds)) ≡ sets l (at + i * 2) (halves (drop i ds))
unfolding halves
halves_turn l ds at i x y h p q =
    let e : at + (i + 1) * 2 ≡ suc (suc (at + i * 2)) = omega arith in
    let f : at + i * 2 + 1 ≡ suc (at + i * 2) = omega arith in
    let g : i + 1 ≡ suc i = omega arith in
    rw (p, q, e, f, g, drop-cons ds i 0)

-- past the last day nothing is left
pub halves_end : (l m ds : List ℕ) (at i : ℕ) → length ds ≤ i → sets l (at + i * 2) (halves (drop i ds)) ≡ m → l ≡ m
unfolding halves
halves_end l m ds at i h e = rw (drop_of_length-le ds {i = i}) at e

pub length_halves : (ds : List ℕ) → length (halves ds) ≡ length ds * 2
unfolding halves
length_halves [] = refl
length_halves (d ∷ ds) = omega (arith, length_halves ds)

-- ---- read

length_wholes : (n : ℕ) (l : List ℕ) → length (wholes n l) ≡ n
unfolding wholes
length_wholes zero l = refl
length_wholes (suc n) l = ap suc (length_wholes n (drop 2 l))

module _ (a : List ℕ) where
  -- a turn of the loop: what is left to read
  pub wholes_turn : (l : List ℕ) (at i x y z : ℕ) → i < 64 → x ≡ get_or a (at + i * 2) 0 → y ≡ get_or a (at + i * 2 + 1) 0 → z ≡ x + 65536 * y
      → sets (set l i z) (i + 1) (wholes (64 - (i + 1)) (drop (at + (i + 1) * 2) a)) ≡ sets l i (wholes (64 - i) (drop (at + i * 2) a))
  unfolding wholes
  wholes_turn l at i x y z h u v w =
      let e : 64 - i ≡ suc (64 - (i + 1)) = omega arith in
      let f : at + (i + 1) * 2 ≡ at + i * 2 + 2 = omega arith in
      let g : i + 1 ≡ suc i = omega arith in
      let p : at + i * 2 + 0 ≡ at + i * 2 = omega arith in
      rw (w, u, v, e, f, g, get_or-drop (at + i * 2) a 0 0, get_or-drop (at + i * 2) a 1 0, drop-drop 2 (at + i * 2) a, p)

-- sixty-four days in the place of sixty-four zeros
wholes_front : (l : List ℕ) → sets (replicate 64 0) 0 (wholes 64 l) ≡ wholes 64 l
wholes_front l =
    let n : length (replicate {A = ℕ} 64 0) ≤ length (wholes 64 l) = omega (arith, length_wholes 64 l, length-replicate {A = ℕ} 64 0) in
    sets_front (wholes 64 l) (replicate 64 0) (omega (arith, length_wholes 64 l, length-replicate {A = ℕ} 64 0))
    ∙ ap (λ (z : List ℕ). wholes 64 l ++ z) (drop_of_length-le (replicate 64 0) {i = length (wholes 64 l)} n)
    ∙ append-nil (wholes 64 l)

-- past the last day nothing is left
none_left : (l r b : List ℕ) (i : ℕ) → 64 ≤ i → sets l i (wholes (64 - i) b) ≡ r → l ≡ r
unfolding wholes
none_left l r b i h e =
    let z : 64 - i ≡ 0 = omega arith in
    rw z at e

pub wholes_end : (l m b : List ℕ) (i : ℕ) → 64 ≤ i → sets l i (wholes (64 - i) b) ≡ sets (replicate 64 0) 0 (wholes 64 m) → l ≡ wholes 64 m
wholes_end l m b i h e = none_left l (sets (replicate 64 0) 0 (wholes 64 m)) b i h e ∙ wholes_front m

-- reading undoes writing
wholes_halves : (ds rest : List ℕ) → wholes (length ds) (halves ds ++ rest) ≡ ds
unfolding wholes halves
wholes_halves [] rest = refl
wholes_halves (d ∷ ds) rest =
    let e : d % 65536 + 65536 * (d / 65536) ≡ d = omega arith in
    rw (e, wholes_halves ds rest)

pub wholes_back : (ds rest : List ℕ) → length ds ≡ 64 → wholes 64 (halves ds ++ rest) ≡ ds
wholes_back ds rest e = ap (λ (n : ℕ). wholes n (halves ds ++ rest)) (sym e) ∙ wholes_halves ds rest
