-- At every instant all that the engine works out is a number, and the elongation lies from 0 to 360. Assumes nothing.
use mathlib.Core.Bool.{Bool, true, ◌&&◌}
use mathlib.Core.List.{List, [], ◌∷◌}
use Prim.Native.Nat.{ℕ, zero, suc, ◌+◌, ◌*◌, ◌^◌, ◌≤◌}
use native.Mathlib.Omega.{arith}
use lib.Dec.{T, leb, leb→le, le→leb, lit≤, lit<}
use lib.IntN.{ℤ, pos, negsuc, nat_abs}
use lib.ListN.{get_or}
use lib.Ieee.{Float, neg, le, lt, of_bits}
use lib.Ieee.Fits.{and_i, and_l, and_r}
use Rattle.paper.specs.Floats.{◌⊖◌, near, dec, whole}
use Rattle.paper.proofs.Within.{Within, widen, refined, either_by, integer, plus_up, clamped, Formula, lit, got, ◌⊞◌, ◌⊟◌, ◌⊠◌, by, ◌⧄◌, within}
use Rattle.paper.proofs.Between.{Between, ends, between, exactly, nearby, difference, below, not_under, at_least, at_most}
use Rattle.gregorian.specs.Instants.{instant}
use Rattle.trig.specs.Trig.{sine, one}
use Rattle.trig.proofs.Laws.{sine_within}
use Rattle.sky.specs.Time.{before1920, before1941, before1961, before1986, before2005, before2050, after2050, delta_t, year_of, tt_of, tt_day, julian_centuries}
use Rattle.sky.specs.Sun.{mean_longitude, center, sun_longitude}
use Rattle.sky.specs.MoonTable.{moon_terms}
use Rattle.sky.specs.Moon.{mean_place, eccentricity_factor, moon_args, factor_power, zero_or, term_at, series, moon_sum, additive, moon_longitude}
use Rattle.sky.specs.Tithi.{elongation_of}
use Rattle.sky.proofs.Norms.{Upto, norm_number, upto_within}

-- a sine is from -1 to 1; from the centuries on, bounds are in units of 2 ^ -20
pub sine_number : (x : Float) → Within 20 (2 ^ 20) (sine x)
unfolding of_bits
sine_number x = clamped 20 (2 ^ 20) one (and_l (le (neg one) (sine x)) (le (sine x) one) (sine_within x)) (and_r (le (neg one) (sine x)) (le (sine x) one) (sine_within x)) tt

-- ---- the instant and the year
ends_are : T (ends 2400000 2510000 (dec 2400000 0) (dec 2510000 0))
unfolding near
ends_are = tt

pub instant_between : (ut : Float) → T (instant ut) → Between 2400000 2510000 ut
unfolding instant
instant_between ut h =
    between 2400000 2510000 (dec 2400000 0) (dec 2510000 0) (and_l (le (dec 2400000 0) ut) (le ut (dec 2510000 0)) h) (and_r (le (dec 2400000 0) ut) (le ut (dec 2510000 0)) h) ends_are

year_between : (ut : Float) → Between 2400000 2510000 ut → Between 1839 2161 (year_of ut)
unfolding year_of near
year_between ut p =
    nearby (exactly 2000 2000 (dec 2000 0) tt) (within 161 (got (difference 58455 p (exactly 2451545 2451545 (dec 2451545 0) tt) tt) ⧄ dec 36525 2) tt) tt

-- ---- ΔT
abbrev pub cubed : {j : ℕ} → Formula j → Formula j
cubed t = t ⊠ t ⊠ t

abbrev pub fourthed : {j : ℕ} → Formula j → Formula j
fourthed t = (t ⊠ t) ⊠ (t ⊠ t)

piece1920 : {y : Float} → Between 1839 1920 y → Within 0 5000 (before1920 (y ⊖ dec 1900 0))
unfolding before1920 near neg
piece1920 p =
    let t = got (difference 61 p (exactly 1900 1900 (dec 1900 0) tt) tt) in
    within 5000 (lit _ ⊞ by _ t ⊟ by _ t ⊠ t ⊞ by _ (cubed t) ⊟ by _ (fourthed t)) tt

piece1941 : {y : Float} → Between 1839 1941 y → Within 0 5000 (before1941 (y ⊖ dec 1920 0))
unfolding before1941 near
piece1941 p =
    let t = got (difference 81 p (exactly 1920 1920 (dec 1920 0) tt) tt) in
    within 5000 (lit _ ⊞ by _ t ⊟ by _ t ⊠ t ⊞ by _ (cubed t)) tt

piece1961 : {y : Float} → Between 1839 1961 y → Within 0 5000 (before1961 (y ⊖ dec 1950 0))
unfolding before1961 near
piece1961 p =
    let t = got (difference 111 p (exactly 1950 1950 (dec 1950 0) tt) tt) in
    within 5000 (lit _ ⊞ by _ t ⊟ t ⊠ t ⧄ _ ⊞ cubed t ⧄ _) tt

piece1986 : {y : Float} → Between 1839 1986 y → Within 0 5000 (before1986 (y ⊖ dec 1975 0))
unfolding before1986 near
piece1986 p =
    let t = got (difference 136 p (exactly 1975 1975 (dec 1975 0) tt) tt) in
    within 5000 (lit _ ⊞ by _ t ⊟ t ⊠ t ⧄ _ ⊟ cubed t ⧄ _) tt

piece2005 : {y : Float} → Between 1986 2005 y → Within 0 5000 (before2005 (y ⊖ dec 2000 0))
unfolding before2005 near
piece2005 p =
    let t = got (difference 14 p (exactly 2000 2000 (dec 2000 0) tt) tt) in
    within 5000 (lit _ ⊞ by _ t ⊟ by _ t ⊠ t ⊞ by _ (cubed t) ⊞ by _ (fourthed t) ⊞ by _ (fourthed t ⊠ t)) tt

piece2050 : {y : Float} → Between 1839 2050 y → Within 0 5000 (before2050 (y ⊖ dec 2000 0))
unfolding before2050 near
piece2050 p =
    let t = got (difference 161 p (exactly 2000 2000 (dec 2000 0) tt) tt) in
    within 5000 (lit _ ⊞ by _ t ⊞ by _ t ⊠ t) tt

later : {y : Float} → Between 1839 2161 y → Within 0 5000 (after2050 y)
unfolding after2050 near neg
later p =
    let t = got (difference 341 p (exactly 1820 1820 (dec 1820 0) tt) tt) ⧄ _ in
    let u = got (difference 311 (exactly 2150 2150 (dec 2150 0) tt) p tt) in
    within 5000 (lit _ ⊞ by _ (t ⊠ t) ⊟ by _ u) tt

-- ΔT is at most 5,000 seconds either way
pub delta_number : {y : Float} → Between 1839 2161 y → Within 0 5000 (delta_t y)
unfolding delta_t near
delta_number {y} p =
    either_by (lt y (dec 1920 0)) (λ h. piece1920 (below h p (exactly 1920 1920 (dec 1920 0) tt)))
    (λ _. either_by (lt y (dec 1941 0)) (λ h. piece1941 (below h p (exactly 1941 1941 (dec 1941 0) tt)))
    (λ _. either_by (lt y (dec 1961 0)) (λ h. piece1961 (below h p (exactly 1961 1961 (dec 1961 0) tt)))
    (λ _. either_by (lt y (dec 1986 0)) (λ h. piece1986 (below h p (exactly 1986 1986 (dec 1986 0) tt)))
    (λ k. either_by (lt y (dec 2005 0)) (λ h. piece2005 (below h (not_under k (exactly 1986 1986 (dec 1986 0) tt) p) (exactly 2005 2005 (dec 2005 0) tt)))
    (λ _. either_by (lt y (dec 2050 0)) (λ h. piece2050 (below h p (exactly 2050 2050 (dec 2050 0) tt)))
    (λ _. later p))))))

-- ---- terrestrial time
-- at an instant it is less than a day away
pub tt_between : (ut : Float) → T (instant ut) → Between 2399999 2510001 (tt_of ut)
unfolding tt_of near
tt_between ut h = let p = instant_between ut h in nearby p (within 1 (got (delta_number (year_between ut p)) ⧄ _) tt) tt

tt_ends : T (ends 2399999 2510001 (dec 2399999 0) (dec 2510001 0))
unfolding near
tt_ends = tt

pub day_between : (tt : Float) → T (tt_day tt) → Between 2399999 2510001 tt
unfolding tt_day
day_between tt h =
    between 2399999 2510001 (dec 2399999 0) (dec 2510001 0) (and_l (le (dec 2399999 0) tt) (le tt (dec 2510001 0)) h) (and_r (le (dec 2399999 0) tt) (le tt (dec 2510001 0)) h) tt_ends

-- so it is a day that the sun and the moon are asked for
pub tt_served : (ut : Float) → T (instant ut) → T (tt_day (tt_of ut))
unfolding tt_day near
tt_served ut h =
    let p = tt_between ut h in
    and_i (le (dec 2399999 0) (tt_of ut)) (le (tt_of ut) (dec 2510001 0)) (at_least (dec 2399999 0) p tt) (at_most (dec 2510001 0) p tt)

-- its centuries, at most 1.6022
pub centuries_number : {tt : Float} → Between 2399999 2510001 tt → Within 20 1680000 (julian_centuries tt)
unfolding julian_centuries near
centuries_number p = within 1680000 (got (refined 20 tt (difference 58456 p (exactly 2451545 2451545 (dec 2451545 0) tt) tt)) ⧄ _) tt

-- ---- the sun
pub sun_upto : {t : Float} → Within 20 1680000 t → Upto 360 (sun_longitude t)
unfolding sun_longitude mean_longitude center near
sun_upto p =
    let t = got p in
    norm_number
    (within (60000 * 2 ^ 20)
    ((lit _ ⊞ by _ t ⊞ by _ t ⊠ t) ⊞ ((lit _ ⊟ by _ t ⊟ by _ t ⊠ t) ⊠ got (sine_number _) ⊞ (lit _ ⊟ by _ t) ⊠ got (sine_number _) ⊞ by _ (got (sine_number _))))
    tt)

-- ---- the moon
-- every entry of the table is small
abbrev all_upto : ℕ → List ℤ → Bool
all_upto B [] = true
all_upto B (z ∷ zs) = leb (nat_abs z) B && all_upto B zs

all_at : (B : ℕ) (l : List ℤ) → T (all_upto B l) → (i : ℕ) → nat_abs (get_or l i (pos 0)) ≤ B
all_at B [] t i = omega arith
all_at B (z ∷ zs) t zero = leb→le (nat_abs z) B (and_l (leb (nat_abs z) B) (all_upto B zs) t)
all_at B (z ∷ zs) t (suc i) = all_at B zs (and_r (leb (nat_abs z) B) (all_upto B zs) t) i

pub entry_small : (i : ℕ) → nat_abs (get_or moon_terms i (pos 0)) ≤ 7000000
entry_small i = all_at 7000000 moon_terms tt i

zero_or_number : {j B : ℕ} {a b : Float} (z : ℤ) → Within j B a → Within j B b → Within j B (zero_or z a b)
unfolding zero_or
zero_or_number (pos zero) p q = p
zero_or_number (pos (suc n)) p q = q
zero_or_number (negsuc n) p q = q

-- a row's term at most, 7,000,000 and a little more
abbrev most : ℕ
most = 7200000 * 2 ^ 20

module _ {t : Float} (p : Within 20 1680000 t) where
  factor_number : Within 20 1060000 (eccentricity_factor t)
  unfolding eccentricity_factor near
  factor_number = let t = got p in within 1060000 (lit _ ⊟ by _ t ⊟ by _ t ⊠ t) tt

  power_number : (z : ℤ) → Within 20 1072000 (factor_power (eccentricity_factor t) z)
  unfolding factor_power near
  power_number (pos zero) = within 1072000 (lit (dec 1 0)) tt
  power_number (pos (suc zero)) = within 1072000 (got factor_number) tt
  power_number (pos (suc (suc n))) = within 1072000 (got factor_number ⊠ got factor_number) tt
  power_number (negsuc zero) = within 1072000 (got factor_number) tt
  power_number (negsuc (suc n)) = within 1072000 (got factor_number ⊠ got factor_number) tt

  series_number : (n : ℕ) → n ≤ 60 → Within 20 (n * most + 1) (series moon_terms (moon_args t) n)
  unfolding series near
  series_number zero h = within 1 (lit (dec 0 0)) tt
  series_number (suc n) h =
      let x = term_at moon_terms n in
      let s = series_number n (omega arith) in
      let c : Within 20 (7000000 * 2 ^ 20) (whole x.coefficient) =
      (let e = entry_small (5 * n + 4) in integer 20 (7000000 * 2 ^ 20) x.coefficient (omega arith) (lit≤ tt) (lit< tt)) in
      let k : Within 20 most _ = within most (got c ⊠ got (power_number x.sun) ⊠ got (sine_number _)) tt in
      zero_or_number x.coefficient (widen (suc n * most + 1) (le→leb (n * most + 1) (suc n * most + 1) (omega arith)) s)
      (plus_up (suc n * most + 1) s k (omega arith) (omega arith))

  sum_number : Within 20 (60 * most + 1) (moon_sum (moon_args t))
  unfolding moon_sum
  sum_number = series_number 60 (lit≤ tt)

  pub place_number : Within 20 (772000 * 2 ^ 20) (mean_place t)
  unfolding mean_place near
  place_number = let t = got p in within (772000 * 2 ^ 20) (lit _ ⊞ by _ t ⊟ by _ t ⊠ t ⊞ cubed t ⧄ _ ⊟ fourthed t ⧄ _) tt

  additive_number : Within 20 (7000 * 2 ^ 20) (additive t (moon_args t))
  unfolding additive near
  additive_number = within (7000 * 2 ^ 20) (by _ (got (sine_number _)) ⊞ by _ (got (sine_number _)) ⊞ by _ (got (sine_number _))) tt

  pub moon_upto : Upto 360 (moon_longitude t)
  unfolding moon_longitude near
  moon_upto = norm_number (within (773000 * 2 ^ 20) (got place_number ⊞ (got sum_number ⊞ got additive_number) ⧄ _) tt)

-- the elongation is a number from 0 to 360
pub elongation_number : (ut : Float) → T (instant ut) → Upto 360 (elongation_of ut)
unfolding elongation_of
elongation_number ut h =
    let p = centuries_number (tt_between ut h) in
    norm_number (within 720 (got (upto_within (moon_upto p)) ⊟ got (upto_within (sun_upto p))) tt)
