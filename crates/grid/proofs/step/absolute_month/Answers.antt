-- The sum is worked in 64 bits, in which it always fits. Assumes nothing.
use Prim.Native.Nat.{◌*◌, ◌^◌, ◌<◌}
use mathlib.Core.Path.{◌≡◌, ap, ◌∙◌}
use native.Mathlib.Omega.{arith}
use lib.IntN.{ℤ, pos, negsuc, ◌+ℤ◌, ◌-ℤ◌, ◌*ℤ◌}
use lib.Signed.{mag}
use mir.Syntax.{w32, w64}
use mir.Val.{to_z, of_z}
use mir.ValLaws.{to_z-of_z, to_z_pos}
use Rattle.grid.specs.Step.{absolute}
use Rattle.grid.proofs.Signed.{fits_as, exact, mag_sum}
use Rattle.grid.proofs.step.absolute_month.Goals as goal
use Rattle.grid.proofs.step.absolute_month.Goals.{Start}

-- what each part of the sum is, as the machine reads it, and how far from 0
module _ (c : Start) where
  years : ℤ
  years = pos (c.args.year * 12)

  months : ℤ
  months = pos c.args.month -ℤ pos 1

  years-small : mag years < 2 ^ 40
  unfolding years
  years-small = omega (arith, c.ranges.year.fits)

  years-read : to_z w64 c.args.year *ℤ pos 12 ≡ years
  unfolding years
  years-read = ap (λ (z : ℤ). z *ℤ pos 12) (to_z_pos w64 c.args.year (omega (arith, c.ranges.year.fits)))

  months-small : mag months < 2 ^ 9
  unfolding months
  months-small = omega (arith, mag_sum (pos c.args.month) (negsuc 0), c.ranges.month.fits)

  months-read : to_z w64 c.args.month -ℤ pos 1 ≡ months
  unfolding months
  months-read = ap (λ (z : ℤ). z -ℤ pos 1) (to_z_pos w64 c.args.month (omega (arith, c.ranges.month.fits)))

  start_small : mag (years +ℤ months) < 2 ^ 20
  unfolding years
  start_small = omega (arith, mag_sum (pos (c.args.year * 12)) months, months-small, c.ranges.year.fits)

  start-read : to_z w64 (of_z w64 (to_z w64 c.args.year *ℤ pos 12)) +ℤ to_z w64 (of_z w64 (to_z w64 c.args.month -ℤ pos 1)) ≡ years +ℤ months
  start-read =
      ap (λ (z : ℤ). z +ℤ to_z w64 (of_z w64 (to_z w64 c.args.month -ℤ pos 1))) (exact _ years years-read years-small)
      ∙ ap (λ (z : ℤ). years +ℤ z) (exact _ months months-read (omega (arith, months-small)))

  step_small : mag c.args.step < 2 ^ 40
  step_small = omega (arith, c.ranges.step.sfits)

  step-read : to_z w32 (of_z w32 c.args.step) ≡ c.args.step
  step-read = to_z-of_z w32 c.args.step c.ranges.step

  whole-small : mag (years +ℤ months +ℤ c.args.step) < 2 ^ 40
  whole-small = omega (arith, mag_sum (years +ℤ months) c.args.step, start_small, c.ranges.step.sfits)

  whole-read : to_z w64 (of_z w64 (to_z w64 (of_z w64 (to_z w64 c.args.year *ℤ pos 12)) +ℤ to_z w64 (of_z w64 (to_z w64 c.args.month -ℤ pos 1)))) +ℤ to_z w64 (of_z w64 (to_z w32 (of_z w32 c.args.step))) ≡ years +ℤ months +ℤ c.args.step
  whole-read =
      ap (λ (z : ℤ). z +ℤ to_z w64 (of_z w64 (to_z w32 (of_z w32 c.args.step)))) (exact _ (years +ℤ months) start-read (omega (arith, start_small)))
      ∙ ap (λ (z : ℤ). years +ℤ months +ℤ z) (exact _ c.args.step step-read step_small)

pub overflow_mul-result : goal.overflow_mul-result
overflow_mul-result c = fits_as (years-read c) (years-small c)

pub overflow_sub-result : goal.overflow_sub-result
overflow_sub-result c = fits_as (months-read c) (omega (arith, months-small c))

pub overflow_add-result : goal.overflow_add-result
overflow_add-result c = fits_as (start-read c) (omega (arith, start_small c))

pub overflow_cast-result-3 : goal.overflow_cast-result-3
overflow_cast-result-3 c = fits_as (step-read c) (step_small c)

pub overflow_add-result-2 : goal.overflow_add-result-2
overflow_add-result-2 c = fits_as (whole-read c) (whole-small c)

pub returns : goal.returns
unfolding absolute years months
returns c = exact _ _ (whole-read c) (whole-small c)
