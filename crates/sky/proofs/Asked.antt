-- A search between two instants asks instants alone: the middle of two is one, the end of a step is one, and so is what halving finds. Over any offset. Assumes nothing.
use Rattle.std.specs.Prelude.{Some}
use mathlib.Core.Path.{◌≡◌, refl}
use mathlib.Core.Bool.{Bool, true, false, cond}
use mathlib.Core.List.{List, [], ◌∷◌, ◌++◌}
use Prim.Native.Nat.{ℕ, zero, suc}
use native.Mathlib.Omega.{arith}
use lib.Dec.{T}
use lib.Ieee.{Float, lt, le}
use lib.Ieee.Fits.{and_i}
use Rattle.paper.specs.Floats.{◌⊕◌, ◌⊘◌, near, dec}
use Rattle.paper.proofs.Between.{Between, exactly, total, part, at_least, at_most, not_beyond}
use Rattle.gregorian.specs.Instants.{instant}
use Rattle.sky.specs.Search.{halved, step_end, crosses, here, walk, searched, first}
use Rattle.sky.proofs.Numbers.{instant_between}

is_instant : {x : Float} → Between 2400000 2510000 x → T (instant x)
unfolding instant near
is_instant {x} p = and_i (le (dec 2400000 0) x) (le x (dec 2510000 0)) (at_least (dec 2400000 0) p tt) (at_most (dec 2510000 0) p tt)

pub middle_instant : (a b : Float) → T (instant a) → T (instant b) → T (instant ((a ⊕ b) ⊘ dec 2 0))
unfolding near
middle_instant a b h k = is_instant (part 2400000 2510000 (dec 2 0) (total (instant_between a h) (instant_between b k) tt) tt)

next_between : (lo : Float) → T (instant lo) → Between 2400000 2510001 (lo ⊕ dec 75 2)
unfolding near
next_between lo h = total (instant_between lo h) (exactly 0 1 (dec 75 2) tt) tt

pub step_instant : (to lo : Float) → T (instant to) → T (instant lo) → T (instant (step_end to lo))
unfolding step_end
step_instant to lo h k = go (lt to (lo ⊕ dec 75 2)) refl
  where
    go : (b : Bool) → lt to (lo ⊕ dec 75 2) ≡ b → T (instant (cond b to (lo ⊕ dec 75 2)))
    go true q = h
    go false q = is_instant (not_beyond q (next_between lo k) (instant_between to h))

picked : (b : Bool) (x y : Float) → T (instant x) → T (instant y) → T (instant (cond b x y))
picked true x y h k = h
picked false x y h k = k

-- a list of instants alone
abbrev pub Instants : List Float → Type 0
Instants [] = Unit {0}
Instants (x ∷ xs) = T (instant x) × Instants xs

joined : (l m : List Float) → Instants l → Instants m → Instants (l ++ m)
joined [] m h k = k
joined (x ∷ l) m h k = (h.0, joined l m h.1 k)

head_instant : (l : List Float) {x : Float} → Instants l → first l ≡ Some x → T (instant x)
unfolding first
head_instant [] h e = absurd (let z : ◌≡◌ {A = ℕ} 0 1 = cc in omega arith)
head_instant (y ∷ l) {x} h e = let q : y ≡ x = cc in rw (← q) h.0

-- ---- what a search asks: f agrees with g at every instant, so the two searches are one. And what it finds is an instant
module _ (f g : Float → Float) (same : (x : Float) → T (instant x) → f x ≡ g x) where
  pub halved_same : (n : ℕ) (a b : Float) → T (instant a) → T (instant b) → halved f n a b ≡ halved g n a b
  unfolding halved
  halved_same zero a b h k = refl
  halved_same (suc n) a b h k =
      let mid = (a ⊕ b) ⊘ dec 2 0 in
      let m = middle_instant a b h k in
      let low = le (g mid) (dec 0 0) in
      rw (same mid m) (halved_same n (cond low mid a) (cond low b mid) (picked low mid a m h) (picked low b mid k m))

  here_same : (lo hi : Float) → T (instant lo) → T (instant hi) → here f lo hi ≡ here g lo hi
  unfolding here
  here_same lo hi h k = rw (same lo h, same hi k, halved_same 30 lo hi h k)

  walk_same : (n : ℕ) (go : Bool) (to lo : Float) → T (instant to) → T (instant lo) → walk f n go to lo ≡ walk g n go to lo
  unfolding walk
  walk_same zero go to lo h k = refl
  walk_same (suc n) false to lo h k = refl
  walk_same (suc n) true to lo h k =
      let hi = step_end to lo in
      let i = step_instant to lo h k in
      rw (here_same lo hi k i, walk_same n (lt hi to) to hi h i)

  pub searched_same : (a to : Float) → T (instant a) → T (instant to) → searched f a to ≡ searched g a to
  unfolding searched
  searched_same a to h k = walk_same 1024 (lt a to) to a k h

module _ (f : Float → Float) where
  pub halved_instant : (n : ℕ) (a b : Float) → T (instant a) → T (instant b) → T (instant (halved f n a b))
  unfolding halved
  halved_instant zero a b h k = middle_instant a b h k
  halved_instant (suc n) a b h k =
      let mid = (a ⊕ b) ⊘ dec 2 0 in
      let m = middle_instant a b h k in
      let low = le (f mid) (dec 0 0) in
      halved_instant n (cond low mid a) (cond low b mid) (picked low mid a m h) (picked low b mid k m)

  -- ---- every start is an instant
  few_instants : (b : Bool) (x : Float) → T (instant x) → Instants (cond b (x ∷ []) [])
  few_instants true x h = (h, tt)
  few_instants false x h = tt

  here_instants : (lo hi : Float) → T (instant lo) → T (instant hi) → Instants (here f lo hi)
  unfolding here
  here_instants lo hi h k = few_instants (crosses (f lo) (f hi)) (halved f 30 lo hi) (halved_instant 30 lo hi h k)

  walk_instants : (n : ℕ) (go : Bool) (to lo : Float) → T (instant to) → T (instant lo) → Instants (walk f n go to lo).starts
  unfolding walk
  walk_instants zero go to lo h k = tt
  walk_instants (suc n) false to lo h k = tt
  walk_instants (suc n) true to lo h k =
      let hi = step_end to lo in
      let i = step_instant to lo h k in
      joined (here f lo hi) (walk f n (lt hi to) to hi).starts (here_instants lo hi k i) (walk_instants n (lt hi to) to hi h i)

  pub starts_instants : (a to : Float) → T (instant a) → T (instant to) → Instants (searched f a to).starts
  unfolding searched
  starts_instants a to h k = walk_instants 1024 (lt a to) to a k h

  pub first_instant : (a to : Float) {x : Float} → T (instant a) → T (instant to) → first (searched f a to).starts ≡ Some x → T (instant x)
  first_instant a to h k e = head_instant (searched f a to).starts (starts_instants a to h k) e
