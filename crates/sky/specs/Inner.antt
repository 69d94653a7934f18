-- Shapes of the loops of `sky`: what its private functions promise, and no public call. Assumes nothing.
use Rattle.std.specs.Prelude.{ℕ, zero, suc, ◌+◌, ◌≤◌, ◌<◌, ◌≡◌, Bool, not, List, [], ◌∷◌, ◌++◌, pos, length, get_or, Float, Option, Some, None}
use Rattle.std.specs.Float.{nan}
use Rattle.std.specs.Float.Ieee.{lt}
use Rattle.paper.specs.Floats.{◌⊕◌, ◌⊗◌, dec, whole}
use Rattle.sky.specs.Moon.{factor_power, zero_or}
use Rattle.sky.specs.Search.{Walk, walk}
use Rattle.sky.specs.declared.moon.Term.{Term}
use Rattle.sky.specs.declared.search.Next.{Next}

-- ---- the moon's series in three passes: the sixty angles, their sines, the sum
-- sixty numbers, each by its place
abbrev pub Sixty : List Float → (ℕ → Float) → Type 0
Sixty l f = (length l ≡ 60) × ((i : ℕ) → i < 60 → get_or l i nan ≡ f i)

-- row i of a table of terms; beyond its end one of zeros
abbrev pub row : List Term → ℕ → Term
row l i = get_or l i (record { elongation = pos 0; sun = pos 0; moon = pos 0; node = pos 0; coefficient = pos 0 })

-- a term whose angle has the sine v added to s, none where the coefficient is 0
unfoldable pub add_term : Float → Term → Float → Float → Float
add_term e x v s = zero_or x.coefficient s (s ⊕ whole x.coefficient ⊗ factor_power e x.sun ⊗ v)

-- the first n terms, whose angles have these sines
unfoldable pub added : (ℕ → Term) → Float → (ℕ → Float) → ℕ → Float
added terms e sines zero = dec 0 0
added terms e sines (suc n) = add_term e (terms n) (sines n) (added terms e sines n)

-- ---- a walk from one start to the next
-- a walk that takes no step
abbrev pub stopped : Bool → Walk
stopped e = record { starts = []; steps = 0; ended = e }

-- the start that was come to, if there is one
abbrev pub listed : Option Float → List Float
listed (Some x) = x ∷ []
listed None = []

abbrev pub came : Next → List Float
came r = listed r.at

abbrev pub no_start : Float → Float → ℕ → Next
no_start lo gap left = record { at = None; lo = lo; gap = gap; left = left }

module _ (f : Float → Float) (to : Float) where
  -- the walk of so many steps from lo on
  abbrev pub rest : ℕ → Float → Walk
  rest left lo = walk f left (lt lo to) to lo

  -- the walk of `left` steps from lo finds l and then what the walk of `on` steps from `at` finds
  pub record Goes (left : ℕ) (lo : Float) (l : List Float) (on : ℕ) (at : Float) : Type 0 where
    pub starts : (rest left lo).starts ≡ l ++ (rest on at).starts
    pub steps : (rest left lo).steps + on ≡ left + (rest on at).steps
    pub ended : (rest left lo).ended ≡ (rest on at).ended

  -- the walk of `left` steps from lo comes to its next start, or to its end
  pub record Comes (left : ℕ) (lo : Float) (r : Next) : Type 0 where
    pub goes : Goes left lo (came r) r.left r.lo
    pub fewer : length (came r) + r.left ≤ left
    pub gap_is : r.gap ≡ f r.lo
    pub over : r.at ≡ None → rest r.left r.lo ≡ stopped (not (lt r.lo to))
