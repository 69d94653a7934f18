-- NO SECOND ANSWER, AND A REFUSAL LEAVES WHAT WAS LENT, for each C function but those over a kept array (Holding.antt): two numbers that meet its contract are
-- equal, and so is all that they leave in the lent places and buffers; a number other than 0 leaves these as they were, but that 7 writes its days and 12 its line
-- to places of their own. Three functions are lent nothing to write to. Assumes nothing.
use Prim.Native.Nat.{ℕ}
use mathlib.Core.Path.{sym, ◌∙◌}
use mathlib.Core.List.{List}
use lib.ListN.{length}
use denote.Ref.{Bor}
use Rattle.gregorian.specs.declared.Date.{Date}
use Rattle.gregorian.specs.Answers.{new_date, number_answer, weekday_answer, next_answer, date_answer}
use Rattle.gregorian.specs.Instants.{julian_answer, npt_answer}
use Rattle.conversion.specs.Calendar.{Calendar, month_len, to_ad, from_ad}
use Rattle.conversion.specs.Flat.{date}
use Rattle.sky.specs.Answers.{tt_answer, sun_answer, moon_answer, elongation_answer, tithi_answer, end_answer}
use Rattle.panchanga.specs.Answers.{events_answer, rise_answer, set_answer, nishita_answer, clock_answer, reading_answer}
use Rattle.rules.specs.Rules.{rules_of, accepted_rules}
use Rattle.rules.specs.Festivals.{listOnBs, listOnAd}
use Rattle.festivals.specs.Kathmandu.{kathmandu}
use Rattle.grid.specs.Cells as Cells
use Rattle.grid.specs.Step.{step_month}
use Rattle.grid.specs.Kathmandu.{month_under}
use Rattle.holiday.specs.Holiday.{holiday_under}
use Rattle.steady.specs.Once.{OneAnswer}
use Rattle.panel.specs.Boundary.{numbers, bs_numbers, readings, month_of, lent, kala_by}
use Rattle.panel.specs.Lent.{one, two, three, four, span, walked, dated, listed, listed_ad, month}
use Rattle.panel.specs.Claims.{Crosses, CrossesTelling}
use Rattle.panel.proofs.Crossing.{by_gives, by_value, by_some, by_starts, by_list, by_list_ad, by_days, by_month, by_written, by_read}
use Rattle.panel.proofs.dates.panel_date_new.Reads as DateNew
use Rattle.panel.proofs.dates.panel_date_day_number.Reads as DayNumber
use Rattle.panel.proofs.dates.panel_date_weekday.Reads as Weekday
use Rattle.panel.proofs.dates.panel_date_next.Reads as DateNext
use Rattle.panel.proofs.dates.panel_date_from_day_number.Reads as FromDayNumber
use Rattle.panel.proofs.dates.panel_julian_day.Reads as JulianDay
use Rattle.panel.proofs.dates.panel_npt_date.Reads as NptDate
use Rattle.panel.proofs.conversions.panel_check_table.Reads as CheckTable
use Rattle.panel.proofs.conversions.panel_bs_month_len.Reads as BsMonthLen
use Rattle.panel.proofs.conversions.panel_validate_bs_date.Reads as ValidateBsDate
use Rattle.panel.proofs.conversions.panel_bs_to_ad.Reads as BsToAd
use Rattle.panel.proofs.conversions.panel_ad_to_bs.Reads as AdToBs
use Rattle.panel.proofs.trigonometry.panel_sine.Reads as Sine
use Rattle.panel.proofs.trigonometry.panel_cosine.Reads as Cosine
use Rattle.panel.proofs.trigonometry.panel_tangent.Reads as Tangent
use Rattle.panel.proofs.trigonometry.panel_arcsine.Reads as Arcsine
use Rattle.panel.proofs.trigonometry.panel_arccosine.Reads as Arccosine
use Rattle.panel.proofs.heavens.panel_delta_t.Reads as DeltaT
use Rattle.panel.proofs.heavens.panel_tt_from_ut.Reads as TtFromUt
use Rattle.panel.proofs.heavens.panel_sun_longitude.Reads as SunLongitude
use Rattle.panel.proofs.heavens.panel_moon_longitude.Reads as MoonLongitude
use Rattle.panel.proofs.heavens.panel_elongation.Reads as Elongation
use Rattle.panel.proofs.heavens.panel_tithi_of.Reads as TithiOf
use Rattle.panel.proofs.heavens.panel_tithi_at.Reads as TithiAt
use Rattle.panel.proofs.heavens.panel_tithi_starts_between.Reads as TithiStarts
use Rattle.panel.proofs.heavens.panel_tithi_end.Reads as TithiEnd
use Rattle.panel.proofs.almanac.panel_sun_events.Reads as SunEvents
use Rattle.panel.proofs.almanac.panel_sunrise.Reads as Sunrise
use Rattle.panel.proofs.almanac.panel_sunset.Reads as Sunset
use Rattle.panel.proofs.almanac.panel_nishita_window.Reads as NishitaWindow
use Rattle.panel.proofs.almanac.panel_kala_instant.Reads as KalaInstant
use Rattle.panel.proofs.almanac.panel_npt_clock.Reads as NptClock
use Rattle.panel.proofs.almanac.panel_minutes_of.Reads as MinutesOf
use Rattle.panel.proofs.almanac.panel_reading.Reads as Reading
use Rattle.panel.proofs.day_lists.panel_check_rules.Reads as CheckRules
use Rattle.panel.proofs.day_lists.panel_festivals_on.Reads as FestivalsOn
use Rattle.panel.proofs.day_lists.panel_festivals_on_ad.Reads as FestivalsOnAd
use Rattle.panel.proofs.holidays.panel_is_holiday.Reads as IsHoliday
use Rattle.panel.proofs.rule_files.panel_read_rules.Reads as ReadRules
use Rattle.panel.proofs.rule_files.panel_write_rules.Reads as WriteRules
use Rattle.panel.proofs.months.panel_step_month.Reads as StepMonth
use Rattle.panel.proofs.months.panel_month_grid.Reads as MonthGrid

-- a date that three parameters name, and a year table that five do
abbrev date_in : {X : Type 0} → ℕ × (ℕ × (ℕ × X)) → Date
date_in a = date a.0 a.1.0 a.1.1.0

abbrev table_in : {X : Type 0} → ℕ × (ℕ × (ℕ × (ℕ × (Bor (List ℕ) × X)))) → Calendar
table_in a = lent a.0 a.1.0 a.1.1.0 a.1.1.1.0 a.1.1.1.1.0.now

-- ---- dates

pub date_new : Crosses DateNew.Learnt (λ k a. three a.1.1.1) (λ k s. three s.1.1.1)
date_new = by_gives (λ k a. new_date a.0 a.1.0 a.1.1.0) numbers (λ k a x s p. p)

pub day_number_law : Crosses DayNumber.Learnt (λ k a. one a.1.1.1) (λ k s. one s.1.1.1)
day_number_law = by_gives (λ k a. number_answer (date_in a)) (λ x. x) (λ k a x s p. p)

pub weekday : Crosses Weekday.Learnt (λ k a. one a.1.1.1) (λ k s. one s.1.1.1)
weekday = by_gives (λ k a. weekday_answer (date_in a)) (λ x. x) (λ k a x s p. p)

pub date_next : Crosses DateNext.Learnt (λ k a. three a.1.1.1) (λ k s. three s.1.1.1)
date_next = by_gives (λ k a. next_answer (date_in a)) numbers (λ k a x s p. p)

pub from_day_number : Crosses FromDayNumber.Learnt (λ k a. three a.1) (λ k s. three s.1)
from_day_number = by_gives (λ k a. date_answer a.0) numbers (λ k a x s p. p)

pub julian_day : Crosses JulianDay.Learnt (λ k a. one a.1.1.1.1) (λ k s. one s.1.1.1.1)
julian_day = by_gives (λ k a. julian_answer (date_in a) a.1.1.1.0) (λ x. x) (λ k a x s p. p)

pub npt_date : Crosses NptDate.Learnt (λ k a. three a.1) (λ k s. three s.1)
npt_date = by_gives (λ k a. npt_answer a.0) numbers (λ k a x s p. p)

-- ---- conversions

pub check_table : OneAnswer CheckTable.Learnt
check_table k a x y s t p q = p ∙ sym q

pub bs_month_len : Crosses BsMonthLen.Learnt (λ k a. one a.1.1.1.1.1.1.1) (λ k s. one s.1.1.1.1.1.1.1)
bs_month_len = by_gives (λ k a. month_len (table_in a) a.1.1.1.1.1.0 a.1.1.1.1.1.1.0) (λ x. x) (λ k a x s p. p)

pub validate_bs_date : OneAnswer ValidateBsDate.Learnt
validate_bs_date k a x y s t p q = p ∙ sym q

pub bs_to_ad : Crosses BsToAd.Learnt (λ k a. three a.1.1.1.1.1.1.1.1) (λ k s. three s.1.1.1.1.1.1.1.1)
bs_to_ad = by_gives (λ k a. let x = a.1.1.1.1.1 in to_ad (table_in a) x.0 x.1.0 x.1.1.0) numbers (λ k a x s p. p)

pub ad_to_bs : CrossesTelling {B = Unit {0}} 7 AdToBs.Learnt (λ k a. (dated a.1.1.1.1.1.1.1.1, tt)) (λ k s. (dated s.1.1.1.1.1.1.1.1, tt))
ad_to_bs = by_days (λ k a. let x = a.1.1.1.1.1 in from_ad (table_in a) x.0 x.1.0 x.1.1.0) bs_numbers (λ k a x s p. p)

-- ---- trigonometry

pub sine : Crosses Sine.Learnt (λ k a. one a.1) (λ k s. one s.1)
sine = by_value _ (λ k a x s p. p)

pub cosine : Crosses Cosine.Learnt (λ k a. one a.1) (λ k s. one s.1)
cosine = by_value _ (λ k a x s p. p)

pub tangent : Crosses Tangent.Learnt (λ k a. one a.1) (λ k s. one s.1)
tangent = by_value _ (λ k a x s p. p)

pub arcsine : Crosses Arcsine.Learnt (λ k a. one a.1) (λ k s. one s.1)
arcsine = by_value _ (λ k a x s p. p)

pub arccosine : Crosses Arccosine.Learnt (λ k a. one a.1) (λ k s. one s.1)
arccosine = by_value _ (λ k a x s p. p)

-- ---- heavens

pub delta_t_law : Crosses DeltaT.Learnt (λ k a. one a.1) (λ k s. one s.1)
delta_t_law = by_value _ (λ k a x s p. p)

pub tt_from_ut : Crosses TtFromUt.Learnt (λ k a. one a.1) (λ k s. one s.1)
tt_from_ut = by_gives (λ k a. tt_answer a.0) (λ x. x) (λ k a x s p. p)

pub sun_longitude_law : Crosses SunLongitude.Learnt (λ k a. one a.1) (λ k s. one s.1)
sun_longitude_law = by_gives (λ k a. sun_answer a.0) (λ x. x) (λ k a x s p. p)

pub moon_longitude_law : Crosses MoonLongitude.Learnt (λ k a. one a.1) (λ k s. one s.1)
moon_longitude_law = by_gives (λ k a. moon_answer a.0) (λ x. x) (λ k a x s p. p)

pub elongation : Crosses Elongation.Learnt (λ k a. one a.1) (λ k s. one s.1)
elongation = by_gives (λ k a. elongation_answer a.0) (λ x. x) (λ k a x s p. p)

pub tithi_of_law : Crosses TithiOf.Learnt (λ k a. one a.1) (λ k s. one s.1)
tithi_of_law = by_value _ (λ k a x s p. p)

pub tithi_at : Crosses TithiAt.Learnt (λ k a. one a.1) (λ k s. one s.1)
tithi_at = by_gives (λ k a. tithi_answer a.0) (λ x. x) (λ k a x s p. p)

pub tithi_starts_between : Crosses TithiStarts.Learnt (λ k a. walked a.1.1.1) (λ k s. walked s.1.1.1)
tithi_starts_between = by_starts (λ k a. a.0) (λ k a. a.1.0) (λ k a. a.1.1.0) (λ k a x s p. p)

pub tithi_end : Crosses TithiEnd.Learnt (λ k a. two a.1) (λ k s. two s.1)
tithi_end = by_some (λ k a. end_answer a.0) (λ x. x) (λ k a x s p. p)

-- ---- almanac

pub sun_events_law : Crosses SunEvents.Learnt (λ k a. span a.1.1.1) (λ k s. span s.1.1.1)
sun_events_law = by_some (λ k a. events_answer (date_in a)) (λ x. x) (λ k a x s p. p)

pub sunrise : Crosses Sunrise.Learnt (λ k a. two a.1.1.1) (λ k s. two s.1.1.1)
sunrise = by_some (λ k a. rise_answer (date_in a)) (λ x. x) (λ k a x s p. p)

pub sunset : Crosses Sunset.Learnt (λ k a. two a.1.1.1) (λ k s. two s.1.1.1)
sunset = by_some (λ k a. set_answer (date_in a)) (λ x. x) (λ k a x s p. p)

pub nishita_window : Crosses NishitaWindow.Learnt (λ k a. span a.1.1.1) (λ k s. span s.1.1.1)
nishita_window = by_some (λ k a. nishita_answer (date_in a)) (λ x. x) (λ k a x s p. p)

pub kala_instant : Crosses KalaInstant.Learnt (λ k a. two a.1.1.1.1) (λ k s. two s.1.1.1.1)
kala_instant = by_some (λ k a. kala_by a.1.1.1.0 (date_in a)) (λ x. x) (λ k a x s p. p)

pub npt_clock : Crosses NptClock.Learnt (λ k a. one a.1) (λ k s. one s.1)
npt_clock = by_gives (λ k a. clock_answer a.0) (λ x. x) (λ k a x s p. p)

pub minutes_of_law : Crosses MinutesOf.Learnt (λ k a. one a.1) (λ k s. one s.1)
minutes_of_law = by_value _ (λ k a x s p. p)

pub reading : Crosses Reading.Learnt (λ k a. four a.1.1.1) (λ k s. four s.1.1.1)
reading = by_gives (λ k a. reading_answer (date_in a)) readings (λ k a x s p. p)

-- ---- day lists

pub check_rules : OneAnswer CheckRules.Learnt
check_rules k a x y s t p q = p ∙ sym q

pub festivals_on : Crosses FestivalsOn.Learnt (λ k a. listed a.1.1.1.1.1.1.1.1.1) (λ k s. listed s.1.1.1.1.1.1.1.1.1)
festivals_on = by_list (λ k a. let rules = a.1.1.1.1.1.0.now in let x = a.1.1.1.1.1.1 in listOnBs kathmandu (table_in a) (rules_of rules) (accepted_rules rules) x.0 x.1.0 x.1.1.0) (λ k a x s p. p)

pub festivals_on_ad : CrossesTelling 7 FestivalsOnAd.Learnt (λ k a. listed_ad a.1.1.1.1.1.1.1.1.1) (λ k s. listed_ad s.1.1.1.1.1.1.1.1.1)
festivals_on_ad = by_list_ad (λ k a. let rules = a.1.1.1.1.1.0.now in let x = a.1.1.1.1.1.1 in listOnAd kathmandu (table_in a) (rules_of rules) (accepted_rules rules) x.0 x.1.0 x.1.1.0) (λ k a x s p. p)

-- ---- holidays

pub is_holiday : Crosses IsHoliday.Learnt (λ k a. one a.1.1.1.1.1.1.1.1.1) (λ k s. one s.1.1.1.1.1.1.1.1.1)
is_holiday = by_gives (λ k a. let x = a.1.1.1.1.1.1 in holiday_under (table_in a) a.1.1.1.1.1.0.now x.0 x.1.0 x.1.1.0) Cells.one (λ k a x s p. p)

-- ---- rule files

pub read_rules : CrossesTelling 12 ReadRules.Learnt (λ k a. walked a.1) (λ k s. walked s.1)
read_rules = by_read (λ k a. a.0.now) (λ k a x s p. p)

pub write_rules : Crosses WriteRules.Learnt (λ k a. listed a.1) (λ k s. listed s.1)
write_rules = by_written (λ k a. a.0.now) (λ k a x s p. p)

-- ---- months

pub step_month_law : Crosses StepMonth.Learnt (λ k a. two a.1.1.1.1.1.1.1.1) (λ k s. two s.1.1.1.1.1.1.1.1)
step_month_law = by_gives (λ k a. let x = a.1.1.1.1.1 in step_month (table_in a) x.0 x.1.0 x.1.1.0) month_of (λ k a x s p. p)

pub month_grid_law : Crosses MonthGrid.Learnt (λ k a. month a.1.1.1.1.1.1.1.1.1.1.1) (λ k s. month s.1.1.1.1.1.1.1.1.1.1.1)
month_grid_law = by_month (λ k a. let x = a.1.1.1.1.1.1 in let y = x.1.1.1 in month_under (table_in a) a.1.1.1.1.1.0.now (date_in x) y.0 y.1.0 (length y.1.1.0.now) (length y.1.1.1.0.now)) (λ k a x s p. p)
