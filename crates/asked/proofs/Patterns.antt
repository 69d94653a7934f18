-- Floats by their bits: which patterns are no number's. Assumes nothing.
use Prim.Native.Nat.{ℕ, ◌%◌, ◌≤◌, ◌<◌}
use mathlib.Core.Path.{◌≡◌, refl, sym, ◌∙◌}
use mathlib.Core.Bool.{true, false, not, true≢false}
use borrow.Author.Tests.{lt-ltb, le-ltb}
use lib.Dec.{T}
use lib.Ieee.{Float, nan, inf, fin, binary64, div, is_nan, of_bits, nan_bits}
use lib.Ieee.Bits.{nan_bits_is, nan_bits_above}

pub pattern_number : (n : ℕ) → n % 9223372036854775808 ≤ 9218868437227405312 → T (not (nan_bits binary64 n))
pattern_number n h =
    let e : nan_bits binary64 n ≡ false = nan_bits_above binary64 n ∙ le-ltb 9218868437227405312 (n % 9223372036854775808) h in
    rw e tt

is_nan_law : (x : Float) → is_nan x ≡ true → nan ≡ x
unfolding is_nan
is_nan_law nan e = refl
is_nan_law (inf s) e = absurd (true≢false (sym e))
is_nan_law (fin s m z) e = absurd (true≢false (sym e))

pub pattern_none : (n : ℕ) → 9218868437227405312 < n % 9223372036854775808 → nan ≡ of_bits binary64 n
pattern_none n h =
    let e : nan_bits binary64 n ≡ true = nan_bits_above binary64 n ∙ lt-ltb 9218868437227405312 (n % 9223372036854775808) h in
    is_nan_law (of_bits binary64 n) (sym (nan_bits_is binary64 n) ∙ e)

-- what 0.0 / 0.0 gives
pub no_quotient : div binary64 (of_bits binary64 0) (of_bits binary64 0) ≡ nan
unfolding div of_bits
no_quotient = refl
