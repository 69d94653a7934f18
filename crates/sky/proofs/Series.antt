-- The moon's series: a power of E by cases, one row's term, one row more. Assumes nothing.
use mathlib.Core.Path.{◌≡◌, refl, ap, ◌∙◌}
use mathlib.Core.List.{List, map}
use Prim.Native.Nat.{ℕ, zero, suc, ◌+◌, ◌<◌, ◌≤◌}
use mathlib.Core.Logic.{⊎_elim}
use native.Mathlib.Numerals.{add-one}
use native.Mathlib.Omega.{arith}
use lib.IntN.{ℤ, pos, negsuc}
use lib.Ieee.{Float, nan}
use lib.ListN.{length, get_or, set}
use Rattle.std.specs.List.{range_with_len}
use Rattle.std.proofs.lemmas.List.FromFn.{get_or-map-range_with_len}
use lib.Seq.{get_or-set_same, get_or-set_other}
use mir.Syntax.{w32}
use mir.Val.{SFits, to_z, of_z}
use mir.ValLaws.{to_z-of_z}
use Rattle.paper.proofs.Tests.{split}
use Rattle.paper.specs.Floats.{◌⊕◌, ◌⊗◌, whole}
use Rattle.trig.specs.Trig.{sine}
use Rattle.sky.specs.Angles.{deg}
use Rattle.sky.specs.Moon.{factor_power, angle, zero_or, term_at, series}
use Rattle.sky.specs.Inner.{row, add_term, added}
use Rattle.sky.specs.declared.moon.MoonArgs.{MoonArgs}
use Rattle.sky.specs.declared.moon.Term.{Term}

zero_not : (z : ℤ) (a b : Float) → (z ≡ pos 0 → ⊥) → b ≡ zero_or z a b
unfolding zero_or
zero_not (pos zero) a b h = absurd (h refl)
zero_not (pos (suc n)) a b h = refl
zero_not (negsuc n) a b h = refl

pub factor_else : (e : Float) (z : ℤ) → (z ≡ pos 0 → ⊥) → (z ≡ pos 1 → ⊥) → (z ≡ negsuc 0 → ⊥) → e ⊗ e ≡ factor_power e z
unfolding factor_power
factor_else e (pos zero) h k l = absurd (h refl)
factor_else e (pos (suc zero)) h k l = absurd (k refl)
factor_else e (pos (suc (suc n))) h k l = refl
factor_else e (negsuc zero) h k l = absurd (l refl)
factor_else e (negsuc (suc n)) h k l = refl

-- a signed number read back from its bits
abbrev pub back : ℤ → ℤ
back z = to_z w32 (of_z w32 z)

-- the angle of a term, from the parts that the code works out
module _ (a : MoonArgs) (x : Term) {w0 w1 w2 w3 : Float} where
  pub angle_is : SFits w32 x.elongation → SFits w32 x.sun → SFits w32 x.moon → SFits w32 x.node → w0 ≡ whole (back x.elongation) → w1 ≡ whole (back x.sun) → w2 ≡ whole (back x.moon) → w3 ≡ whole (back x.node) → (w0 ⊗ a.elongation ⊕ w1 ⊗ a.sun ⊕ w2 ⊗ a.moon ⊕ w3 ⊗ a.node) ⊗ deg ≡ angle a x
  angle_is f0 f1 f2 f3 h0 h1 h2 h3 =
      simp (h0, h1, h2, h3, to_z-of_z w32 x.elongation f0, to_z-of_z w32 x.sun f1, to_z-of_z w32 x.moon f2, to_z-of_z w32 x.node f3)

module _ (e : Float) (x : Term) (v s : Float) where
  -- a term whose coefficient is not 0, from the parts that the code works out
  pub term_is : {w p : Float} → SFits w32 x.sun → SFits w32 x.coefficient → (x.coefficient ≡ pos 0 → ⊥) → w ≡ whole (back x.coefficient) → p ≡ factor_power e (back x.sun) → s ⊕ w ⊗ p ⊗ v ≡ add_term e x v s
  unfolding add_term
  term_is f g h hw hp = simp (hw, hp, to_z-of_z w32 x.sun f, to_z-of_z w32 x.coefficient g) (zero_not x.coefficient s _ h)

  pub term_none : x.coefficient ≡ pos 0 → s ≡ add_term e x v s
  unfolding add_term zero_or
  term_none h = rw h

-- one row more
pub row_more : (t : ℕ → Term) (e : Float) (f : ℕ → Float) (i : ℕ) {x : Term} {v s r : Float} → s ≡ added t e f i → x ≡ t i → v ≡ f i → r ≡ add_term e x v s → r ≡ added t e f (i + 1)
unfolding added
row_more t e f i hs hx hv hr = rw (add-one i) (hr ∙ simp (hs, hx, hv))

pub added_same : (t : ℕ → Term) (e : Float) (f g : ℕ → Float) (n : ℕ) → ((i : ℕ) → i < n → f i ≡ g i) → added t e f n ≡ added t e g n
unfolding added
added_same t e f g zero h = refl
added_same t e f g (suc n) h = rw (h n (omega arith), added_same t e f g n (λ i l. h i (omega arith)))

-- three passes are one: the rows added with the sines of their own angles
pub passes : (t : ℕ → Term) (rows : List ℤ) (a : MoonArgs) (n : ℕ) → ((i : ℕ) → i < n → t i ≡ term_at rows i) → added t a.factor (λ i. sine (angle a (t i))) n ≡ series rows a n
unfolding added add_term series
passes t rows a zero h = refl
passes t rows a (suc n) h = rw (h n (omega arith), passes t rows a n (λ i l. h i (omega arith)))

-- a row of a table that was made of the rows of another
pub row_of : (f : ℕ → Term) (n : ℕ) (l : List Term) → l ≡ map f (range_with_len 0 n) → (i : ℕ) → i < n → row l i ≡ f i
row_of f n l e i h = ap (λ (k : List Term). row k i) e ∙ get_or-map-range_with_len f 0 n i i _ h (omega arith)

-- the places below i hold the one, the others what the other says
abbrev pub Filled : List Float → (ℕ → Float) → (ℕ → Float) → ℕ → Type 0
Filled l f g i = (k : ℕ) → (k < i → get_or l k nan ≡ f k) × (i ≤ k → get_or l k nan ≡ g k)

-- one place more
pub filled_more : (l : List Float) (f g : ℕ → Float) (i : ℕ) {v : Float} → i < length l → v ≡ f i → Filled l f g i → Filled (set l i v) f g (i + 1)
filled_more l f g i {v} h e p k = (
  λ u. ⊎_elim
      (λ (q : i ≤ k). let same : k ≡ i = omega arith in rw same (get_or-set_same l i v nan h ∙ e))
      (λ (q : k < i). get_or-set_other l i k v nan (λ s. let bad : ⊥ = omega arith in bad) ∙ (p k).0 q)
      (split i k),
  λ u. get_or-set_other l i k v nan (λ s. let bad : ⊥ = omega arith in bad) ∙ (p k).1 (omega arith),
)
