-- At every instant, and on every day of terrestrial time that is served, each angle whose sine is taken lies within the 100,000 radians that
-- sine serves: so its answer for what lies beyond is never met. Assumes nothing.
use mathlib.Core.Bool.{Bool, ◌&&◌}
use Prim.Native.Nat.{ℕ, ◌+◌, ◌*◌, ◌^◌, ◌<◌}
use native.Mathlib.Nat.{le_refl}
use native.Mathlib.Omega.{arith}
use lib.Dec.{T, leb, lit≤}
use lib.IntN.{pos, nat_abs}
use lib.ListN.{get_or}
use lib.Ieee.{Float, of_bits, div}
use Rattle.paper.specs.Floats.{◌⊖◌, ◌⊗◌, near, dec, whole}
use Rattle.paper.proofs.Tests.{below, at}
use Rattle.paper.proofs.Within.{Within, integer, inside, Formula, lit, got, ◌⊞◌, ◌⊟◌, ◌⊠◌, by, ◌⧄◌, good, bound, within}
use Rattle.gregorian.specs.Instants.{instant}
use Rattle.trig.specs.Trig.{limit, in_range}
use Rattle.sky.specs.Time.{tt_of, tt_day, julian_centuries}
use Rattle.sky.specs.Angles.{deg}
use Rattle.sky.specs.Sun.{anomaly}
use Rattle.sky.specs.MoonTable.{moon_terms}
use Rattle.sky.specs.Moon.{mean_place, mean_elongation, sun_anomaly, moon_anomaly, argument_of_latitude, venus, jupiter, moon_args, angle, term_at}
use Rattle.sky.specs.Claims.{Served}
use Rattle.sky.proofs.Numbers.{cubed, fourthed, entry_small, place_number, tt_served, day_between, centuries_number}

abbrev far : ℕ
far = 100000 * 2 ^ 20

served : {x : Float} → Within 20 far x → T (in_range x)
unfolding of_bits
served p = inside limit p tt

module _ {t : Float} (p : Within 20 1680000 t) where
  elongation_arg : Within 20 (714000 * 2 ^ 20) (mean_elongation t)
  unfolding mean_elongation near
  elongation_arg = let t = got p in within (714000 * 2 ^ 20) (lit _ ⊞ by _ t ⊟ by _ t ⊠ t ⊞ cubed t ⧄ _ ⊟ fourthed t ⧄ _) tt

  sun_arg : Within 20 (58100 * 2 ^ 20) (sun_anomaly t)
  unfolding sun_anomaly near
  sun_arg = let t = got p in within (58100 * 2 ^ 20) (lit _ ⊞ by _ t ⊟ by _ t ⊠ t ⊞ cubed t ⧄ _) tt

  moon_arg : Within 20 (765000 * 2 ^ 20) (moon_anomaly t)
  unfolding moon_anomaly near
  moon_arg = let t = got p in within (765000 * 2 ^ 20) (lit _ ⊞ by _ t ⊞ by _ t ⊠ t ⊞ cubed t ⧄ _ ⊟ fourthed t ⧄ _) tt

  node_arg : Within 20 (775000 * 2 ^ 20) (argument_of_latitude t)
  unfolding argument_of_latitude near
  node_arg = let t = got p in within (775000 * 2 ^ 20) (lit _ ⊞ by _ t ⊟ by _ t ⊠ t ⊟ cubed t ⧄ _ ⊞ fourthed t ⧄ _) tt

  -- ---- the sixty rows, one by one
  multiple : (i : ℕ) → Within 20 (nat_abs (get_or moon_terms i (pos 0)) * 2 ^ 20) (whole (get_or moon_terms i (pos 0)))
  multiple i =
      let h = entry_small i in
      integer 20 (nat_abs (get_or moon_terms i (pos 0)) * 2 ^ 20) (get_or moon_terms i (pos 0)) (le_refl (nat_abs (get_or moon_terms i (pos 0)) * 2 ^ 20)) (lit≤ tt) (omega arith)

  abbrev row : ℕ → Formula 20
  row n =
      (got (multiple (5 * n)) ⊠ got elongation_arg ⊞ got (multiple (5 * n + 1)) ⊠ got sun_arg ⊞ got (multiple (5 * n + 2)) ⊠ got moon_arg ⊞ got (multiple (5 * n + 3)) ⊠ got node_arg) ⊠ lit deg

  abbrev fine : ℕ → Bool
  fine n = good (row n) && leb (bound (row n)) far

  all_fine : T (below fine 60)
  unfolding deg near div
  all_fine = tt

  row_served : (n : ℕ) → n < 60 → T (in_range (angle (moon_args t) (term_at moon_terms n)))
  row_served n h = served (within far (row n) (at fine 60 all_fine n h))

  -- ---- the additive terms, and the sun
  venus_served : T (in_range (venus t ⊗ deg))
  unfolding venus deg near div
  venus_served = served (within far ((lit _ ⊞ by _ (got p)) ⊠ lit _) tt)

  flattening_served : T (in_range ((mean_place t ⊖ argument_of_latitude t) ⊗ deg))
  unfolding deg near div
  flattening_served = served (within far ((got (place_number p) ⊟ got node_arg) ⊠ lit _) tt)

  jupiter_served : T (in_range (jupiter t ⊗ deg))
  unfolding jupiter deg near div
  jupiter_served = served (within far ((lit _ ⊞ by _ (got p)) ⊠ lit _) tt)

  anomaly_number : Within 20 (58100 * 2 ^ 20) (anomaly t)
  unfolding anomaly near
  anomaly_number = let t = got p in within (58100 * 2 ^ 20) (lit _ ⊞ by _ t ⊟ by _ t ⊠ t) tt

  sun_once : T (in_range (anomaly t ⊗ deg))
  unfolding deg near div
  sun_once = served (within far (got anomaly_number ⊠ lit _) tt)

  sun_twice : T (in_range (dec 2 0 ⊗ anomaly t ⊗ deg))
  unfolding deg near div
  sun_twice = served (within far (by _ (got anomaly_number) ⊠ lit _) tt)

  sun_thrice : T (in_range (dec 3 0 ⊗ anomaly t ⊗ deg))
  unfolding deg near div
  sun_thrice = served (within far (by _ (got anomaly_number) ⊠ lit _) tt)

-- all of them
pub day_angles : (tt : Float) → T (tt_day tt) → Served (julian_centuries tt)
day_angles tt h =
    let p = centuries_number (day_between tt h) in
    record {
      rows = row_served p;
      venus = venus_served p;
      flattening = flattening_served p;
      jupiter = jupiter_served p;
      sun1 = sun_once p;
      sun2 = sun_twice p;
      sun3 = sun_thrice p;
    }

pub instant_angles : (ut : Float) → T (instant ut) → Served (julian_centuries (tt_of ut))
instant_angles ut h = day_angles (tt_of ut) (tt_served ut h)
