-- The demands, each by the name under which it is proved. docs/PROMISES.md says them in words. Assumes nothing.

-- DEMAND 1: each public call of the engine meets its contract, on every input, and a refusal leaves every lent buffer as it was
pub use Rattle.gregorian.proofs.Date.new.Met.{met as date_new}
pub use Rattle.gregorian.proofs.Date.day_number.Met.{met as day_number_law}
pub use Rattle.gregorian.proofs.Date.weekday.Met.{met as weekday}
pub use Rattle.gregorian.proofs.Date.next.Met.{met as date_next}
pub use Rattle.gregorian.proofs.Date.from_day_number.Met.{met as from_day_number}
pub use Rattle.gregorian.proofs.is_instant.Met.{met as is_instant}
pub use Rattle.gregorian.proofs.julian_day.Met.{met as julian_day}
pub use Rattle.gregorian.proofs.npt_date.Met.{met as npt_date}
pub use Rattle.conversion.proofs.accepts.Met.{met as accepts}
pub use Rattle.conversion.proofs.bs_month_len.Met.{met as bs_month_len}
pub use Rattle.conversion.proofs.validate_bs_date.Met.{met as validate_bs_date}
pub use Rattle.conversion.proofs.bs_to_ad.Met.{met as bs_to_ad}
pub use Rattle.conversion.proofs.ad_to_bs.Met.{met as ad_to_bs}
pub use Rattle.trig.proofs.sine.Met.{met as sine}
pub use Rattle.trig.proofs.cosine.Met.{met as cosine}
pub use Rattle.trig.proofs.tangent.Met.{met as tangent}
pub use Rattle.trig.proofs.arcsine.Met.{met as arcsine}
pub use Rattle.trig.proofs.arccosine.Met.{met as arccosine}
pub use Rattle.sky.proofs.time.delta_t.Met.{met as delta_t_law}
pub use Rattle.sky.proofs.tt_from_ut.Met.{met as tt_from_ut}
pub use Rattle.sky.proofs.sun_longitude.Met.{met as sun_longitude_law}
pub use Rattle.sky.proofs.moon_longitude.Met.{met as moon_longitude_law}
pub use Rattle.sky.proofs.elongation.Met.{met as elongation}
pub use Rattle.sky.proofs.tithi_at.Met.{met as tithi_at}
pub use Rattle.sky.proofs.tithi.tithi_of.Met.{met as tithi_of_law}
pub use Rattle.sky.proofs.tithi_starts_between.Met.{met as tithi_starts_between}
pub use Rattle.sky.proofs.tithi_end.Met.{met as tithi_end}
pub use Rattle.panchanga.proofs.sun_events.Met.{met as sun_events_law}
pub use Rattle.panchanga.proofs.sunrise.Met.{met as sunrise}
pub use Rattle.panchanga.proofs.sunset.Met.{met as sunset}
pub use Rattle.panchanga.proofs.nishita_window.Met.{met as nishita_window}
pub use Rattle.panchanga.proofs.kala_instant.Met.{met as kala_instant}
pub use Rattle.panchanga.proofs.clock.minutes_of.Met.{met as minutes_of_law}
pub use Rattle.panchanga.proofs.npt_clock.Met.{met as npt_clock}
pub use Rattle.panchanga.proofs.reading.Met.{met as reading}
pub use Rattle.rules.proofs.accepts_rules.Met.{met as accepts_rules}
pub use Rattle.festivals.proofs.festivals_on.Met.{met as festivals_on}
pub use Rattle.festivals.proofs.festivals_on_ad.Met.{met as festivals_on_ad}
pub use Rattle.grid.proofs.step_month.Met.{met as step_month_law}
pub use Rattle.grid.proofs.month_grid.Met.{met as month_grid_law}
pub use Rattle.holiday.proofs.is_holiday.Met.{met as is_holiday}
pub use Rattle.kept.proofs.start.Met.{met as kept_start}
pub use Rattle.kept.proofs.take_rules.Met.{met as kept_take}
pub use Rattle.kept.proofs.append_row.Met.{met as kept_append}
pub use Rattle.kept.proofs.forget.Met.{met as kept_forget}
pub use Rattle.kept.proofs.stored.Met.{met as kept_stored}
pub use Rattle.kept.proofs.asking.ask_bs.Met.{met as kept_bs}
pub use Rattle.kept.proofs.asking.ask_ad.Met.{met as kept_ad}
pub use Rattle.kept.proofs.months.ask_month.Met.{met as kept_month_law}
pub use Rattle.kept.proofs.converting.bs_to_ad.Met.{met as kept_to_ad}
pub use Rattle.kept.proofs.converting.ad_to_bs.Met.{met as kept_to_bs}
pub use Rattle.steady.proofs.Refusals.{list_left, month_left, starts_left}
-- DEMAND 2: for every accepted table the BS dates and the table days match one to one, in order, and all else is refused with its number; a table that
-- is not accepted answers nothing
pub use Rattle.conversion.specs.Claims.{OneToOne, NoTable}
pub use Rattle.conversion.proofs.Theorems.{one_to_one, no_table}
-- DEMAND 3: rows added to a table change no answer
pub use Rattle.steady.proofs.Steady.{steady}
-- and so of two results that meet a call's contract, under the table and under the longer one
pub use Rattle.steady.proofs.Composed as Composed
-- nor an answer of a kept state to which a row is appended
pub use Rattle.steady.proofs.Kept.{kept_steady}
-- what is kept, after any sequence of operations
pub use Rattle.kept.specs.Claims.{Keeps}
pub use Rattle.kept.proofs.Theorems.{always}
-- what is answered of a date is the holiday number of its cell, and each date that is answered has one
pub use Rattle.holiday.proofs.Theorems.{in_cells, has_cell}
-- the checked examples
pub use Rattle.steady.proofs.Examples.{checked}
-- the festival rules over a sky of a few numbers
pub use Rattle.steady.proofs.SmallSky.{small_sky}
