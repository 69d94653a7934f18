-- The search for the instants at which a tithi begins: steps of 0.75 days, a start where the offset from the tithi's elongation goes from at
-- most 0 to above 0, then thirty halvings. It is written over any offset, so over any elongation. Assumes nothing.
use Rattle.std.specs.Prelude.{ℕ, zero, suc, ◌+◌, Bool, true, false, cond, not, ◌&&◌, List, [], ◌∷◌, ◌++◌, ltb, pos, Float, None, Option, Some}
use Rattle.std.specs.Float.Ieee.{lt, le, neg}
use Rattle.paper.specs.Floats.{◌⊕◌, ◌⊖◌, ◌⊗◌, ◌⊘◌, dec, whole}
use Rattle.sky.specs.Tithi.{elongation_of}

-- one turn more where at most -180, then one less where above 180
unfoldable pub turned : Float → Float
turned x =
    let y = cond (le x (neg (dec 180 0))) (x ⊕ dec 360 0) x in
    cond (lt (dec 180 0) y) (y ⊖ dec 360 0) y

-- the signed distance from a target to the elongation e at an instant
unfoldable pub offset : (Float → Float) → Float → Float → Float
offset e target x = turned (e x ⊖ target)

-- the elongation at which a tithi begins
unfoldable pub target_of : ℕ → Float
target_of n = (whole (pos n) ⊖ dec 1 0) ⊗ dec 12 0

-- ---- over any offset f
-- n halvings: the half in which f goes above 0
unfoldable pub halved : (Float → Float) → ℕ → Float → Float → Float
halved f zero a b = (a ⊕ b) ⊘ dec 2 0
halved f (suc n) a b =
    let middle = (a ⊕ b) ⊘ dec 2 0 in
    let low = le (f middle) (dec 0 0) in
    halved f n (cond low middle a) (cond low b middle)

-- where the step from lo ends
unfoldable pub step_end : Float → Float → Float
step_end to lo = let next = lo ⊕ dec 75 2 in cond (lt to next) to next

-- whether a start lies in a step, by the offsets at its ends
unfoldable pub crosses : Float → Float → Bool
crosses a b = le a (dec 0 0) && lt (dec 0 0) b

-- the start in the step from lo to hi, if there is one
unfoldable pub here : (Float → Float) → Float → Float → List Float
here f lo hi = cond (crosses (f lo) (f hi)) (halved f 30 lo hi ∷ []) []

-- what a walk finds: its starts, how many steps it took, and whether it came to the end
pub record Walk : Type 0 where
  pub starts : List Float
  pub steps : ℕ
  pub ended : Bool

-- a step with its starts before the rest of a walk
abbrev pub onward : List Float → Walk → Walk
onward l w = record { starts = l ++ w.starts; steps = suc w.steps; ended = w.ended }

-- a walk of at most n steps from lo; go says whether lo is below to
unfoldable pub walk : (Float → Float) → ℕ → Bool → Float → Float → Walk
walk f zero go to lo = record { starts = []; steps = 0; ended = not go }
walk f (suc n) false to lo = record { starts = []; steps = 0; ended = true }
walk f (suc n) true to lo = let hi = step_end to lo in onward (here f lo hi) (walk f n (lt hi to) to hi)

-- a walk of at most 1,024 steps
unfoldable pub searched : (Float → Float) → Float → Float → Walk
searched f a to = walk f 1024 (lt a to) to a

-- the first of some instants
unfoldable pub first : List Float → Option Float
first [] = None
first (x ∷ xs) = Some x

-- ---- with the moon's elongation
-- where tithi n begins, from a to b
abbrev pub starts_of : ℕ → Float → Float → Walk
starts_of n a b = searched (offset elongation_of (target_of n)) a b

-- the tithi after n; the first comes after the thirtieth
unfoldable pub next_tithi : ℕ → ℕ
next_tithi n = cond (ltb n 30) (n + 1) 1

-- where tithi n, which runs at a day of universal time, ends: the next one's first start in two and a half days
unfoldable pub end_of : ℕ → Float → Option Float
end_of n ut = first (starts_of (next_tithi n) ut (ut ⊕ dec 25 1)).starts
