-- What a tithi claims, and the first of some days, over any sky. Assumes nothing.
use Rattle.std.specs.Prelude.{None, Option, Some}
use Prim.Native.Nat.{ℕ, suc, ◌+◌, ◌-◌, ◌≤◌, ◌<◌}
use mathlib.Core.Path.{◌≡◌, refl}
use mathlib.Core.Bool.{Bool, true, false, cond, ◌&&◌}
use native.Mathlib.Omega.{arith}
use lib.Ieee.{Float}
use Rattle.panchanga.specs.declared.Kala.{Kala}
use Rattle.panchanga.specs.Kalas.{is_nishita}
use Rattle.rules.specs.Sky.{Sky}
use Rattle.rules.specs.Days.{holds, first_from, nishita, claims, claimed}
use Rattle.festivals.specs.Kathmandu.{kala_number}
use Rattle.festivals.proofs.Kalas.{nishita_is}

module _ (s : Sky Float) (b e : Float) where
  pub kala_claims : (k : Kala) (n : ℕ) (o : Option Float) → is_nishita k ≡ false → o ≡ s.kala_on (kala_number k) n
      → holds o (λ x. s.not_after b x && s.before x e) ≡ claims s b e (kala_number k) n
  unfolding claims
  kala_claims k n o h q = rw (nishita_is k, h, q)

  pub night_claims : (n : ℕ) (o : Option (Float × Float)) → o ≡ s.nishita_on n
      → holds o (λ w. s.not_after b w.0 && s.not_after w.1 e) ≡ claims s b e nishita n
  unfolding claims
  night_claims n o q = rw q

-- ---- the first of some days

from_suc : (p : ℕ → Bool) (n k : ℕ) → first_from p n (suc k) ≡ cond (p n) (Some n) (first_from p (n + 1) k)
unfolding first_from
from_suc p n k = refl

-- of the four days from the one before `begin`, those from day n on give the answer
abbrev pub Left : {I : Type 0} → Sky I → I → I → ℕ → ℕ → ℕ → Type 0
Left s b e k begin n = first_from (claims s b e k) n (begin + 3 - n) ≡ claimed s b e k begin

module _ {I : Type 0} (s : Sky I) (b e : I) (k begin : ℕ) where
  pub left_first : 1 ≤ begin → Left s b e k begin (begin - 1)
  unfolding claimed
  left_first h = let f : begin + 3 - (begin - 1) ≡ 4 = omega arith in rw f

  -- no day is left
  pub left_none : (n : ℕ) → begin + 3 ≤ n → Left s b e k begin n → None ≡ claimed s b e k begin
  unfolding first_from
  left_none n h q = let f : begin + 3 - n ≡ 0 = omega arith in rw f at q

  -- a turn of the loop over them
  module _ (n : ℕ) (h : n < begin + 3) (q : Left s b e k begin n) (t : Bool) (c : t ≡ claims s b e k n) where
    step : cond t (Some n) (first_from (claims s b e k) (n + 1) (begin + 3 - (n + 1))) ≡ claimed s b e k begin
    step =
        let f : begin + 3 - n ≡ suc (begin + 3 - (n + 1)) = omega arith in
        rw (c, ← from_suc (claims s b e k) n (begin + 3 - (n + 1)), ← f) q

    pub left_hit : t ≡ true → Some n ≡ claimed s b e k begin
    left_hit y = rw y at step

    pub left_miss : t ≡ false → Left s b e k begin (n + 1)
    left_miss y = rw y at step
