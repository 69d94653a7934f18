-- The day on which a tithi is celebrated, over any sky. Assumes nothing.
use Rattle.std.specs.Prelude.{ℕ, zero, suc, ◌+◌, ◌-◌, Bool, false, cond, ◌&&◌, eqb, None, Option, Some}
use Rattle.rules.specs.Sky.{Sky}

-- ---- what may be nothing

unfoldable pub next : {A B : Type 0} → Option A → (A → Option B) → Option B
next (Some x) f = f x
next None f = None

-- a test; nothing fails it
unfoldable pub holds : {A : Type 0} → Option A → (A → Bool) → Bool
holds (Some x) p = p x
holds None p = false

unfoldable pub or_else : {A : Type 0} → Option A → A → A
or_else (Some x) y = x
or_else None y = y

-- the first of the k numbers from n on that passes
unfoldable pub first_from : (ℕ → Bool) → ℕ → ℕ → Option ℕ
first_from p n zero = None
first_from p n (suc k) = cond (p n) (Some n) (first_from p (n + 1) k)

-- ---- the kalas

abbrev pub udaya : ℕ
udaya = 0

abbrev pub nishita : ℕ
nishita = 4

abbrev pub begins : ℕ
begins = 5

-- how often the question may still be asked anew: udaya asks no further, and the day of beginning is given at once
unfoldable pub rank : ℕ → ℕ
rank k = cond (eqb k udaya) 0 (cond (eqb k begins) 0 1)

module _ {I : Type 0} (s : Sky I) where
  -- a tithi from b to e claims day n at kala k: nishita whole, another kala's instant before the end
  unfoldable pub claims : I → I → ℕ → ℕ → Bool
  claims b e k n =
      cond (eqb k nishita)
      (holds (s.nishita_on n) (λ w. s.not_after b w.0 && s.not_after w.1 e))
      (holds (s.kala_on k n) (λ x. s.not_after b x && s.before x e))

  -- the first that it claims of the days -1, 0, 1, 2 from day n, on which it begins
  unfoldable pub claimed : I → I → ℕ → ℕ → Option ℕ
  claimed b e k n = first_from (claims b e k) (n - 1) 4

  -- the question asked at most r times more: with udaya, and then the day of beginning as a last resort
  unfoldable pub asked_day : ℕ → I → I → ℕ → ℕ → ℕ
  asked_day zero b e k n = or_else (claimed b e k n) n
  asked_day (suc r) b e k n = or_else (claimed b e k n) (asked_day r b e udaya n)

  -- the day of a festival: the tithi, its kala, and the instant at which it begins
  unfoldable pub festival_day : ℕ → ℕ → I → Option ℕ
  festival_day t k b =
      next (s.day_of b) (λ n. cond (eqb k begins) (Some n) (next (s.end_of t b) (λ e. Some (asked_day (rank k) b e k n))))
