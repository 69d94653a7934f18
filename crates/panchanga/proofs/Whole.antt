-- A number from 0.0 to below 4,294,967,295 is cut to its whole part, and that lies below 4,294,967,295. Assumes nothing.
use Rattle.std.proofs.Common.{◌≡◌, ℕ, ◌+◌, ◌-◌, ◌*◌, ◌/◌, ◌^◌, ◌<◌, min, true, false, T, eqb, ℤ, pos, ap, ◌∙◌, div-lt_iff_lt-mul, arith, eqb→eq, ltb→lt, lt→ltb}
use native.Mathlib.Nat.{zero-div}
use lib.Ieee.{Float, nan, inf, fin, up, down, lt, le, to_unsigned}
use lib.Ieee.Fits.{and_l, down_pos}
use Rattle.paper.specs.Floats.{near, dec, floor_of}

pub record Counted (x : Float) : Type 0 where
  pub above : T (lt (fin true 1 (pos 0)) x)
  pub below : T (lt x (fin false 1 (pos 64)))
  pub cut : to_unsigned 64 x ≡ floor_of x
  pub small : floor_of x < 4294967295

capped : (a b : ℕ) → a < b → min a (b - 1) ≡ a
capped a b h = omega arith

-- above zero
count_up : (m : ℕ) (e : ℤ) → m * up e < 4294967295 * down e → Counted (fin false m e)
unfolding lt to_unsigned floor_of
count_up m e h =
    let d = down_pos e in
    let q : m * up e / down e < 4294967295 = (div-lt_iff_lt-mul (down_pos e)).1 h in
    record {
      above = lt→ltb 0 (1 * 1 * down e + m * up e * 1) (omega arith);
      below = lt→ltb (m * up e * 1) (1 * 2 ^ 64 * down e) (omega arith);
      cut = capped (m * up e / down e) (2 ^ 64) (omega arith);
      small = q;
    }

-- zero with a sign
count_none : (m : ℕ) (e : ℤ) → m * up e ≡ 0 → Counted (fin true m e)
unfolding lt to_unsigned floor_of
count_none m e h =
    let d = down_pos e in
    let q : m * up e / down e ≡ 0 = ap (λ (k : ℕ). k / down e) h ∙ zero-div (down e) in
    record {
      above = lt→ltb (m * up e * 1) (1 * 1 * down e) (omega arith);
      below = lt→ltb 0 (m * up e * 1 + 1 * 2 ^ 64 * down e) (omega arith);
      cut = omega arith;
      small = omega arith;
    }

pub counted : (x : Float) → T (le (dec 0 0) x) → T (lt x (dec 4294967295 0)) → Counted x
unfolding le lt near
counted nan l h = absurd l
counted (inf true) l h = absurd l
counted (inf false) l h = absurd h
counted (fin false m e) l h = count_up m e (let k = ltb→lt (m * up e * 1) (4294967295 * down e) h in omega arith)
counted (fin true m e) l h =
    count_none m e
    (let z = eqb→eq (0 * down e) (m * up e * 1) (and_l (eqb (0 * down e) (m * up e * 1)) (eqb (0 * down e) 0) l) in omega arith)
