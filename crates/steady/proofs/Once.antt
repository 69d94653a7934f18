-- NO SECOND ANSWER for each public call of the engine: two results, and two states of each lent buffer, that meet the contract are equal.
-- Assumes nothing.
use Prim.Native.Nat.{ℕ}
use mathlib.Core.Path.{◌≡◌, sym, ◌∙◌}
use mathlib.Core.List.{List}
use Rattle.gregorian.proofs.Date.new.Reads as DateNew
use Rattle.gregorian.proofs.Date.day_number.Reads as DayNumber
use Rattle.gregorian.proofs.Date.weekday.Reads as Weekday
use Rattle.gregorian.proofs.Date.next.Reads as DateNext
use Rattle.gregorian.proofs.Date.from_day_number.Reads as FromDayNumber
use Rattle.gregorian.proofs.is_instant.Reads as IsInstant
use Rattle.gregorian.proofs.julian_day.Reads as JulianDay
use Rattle.gregorian.proofs.npt_date.Reads as NptDate
use Rattle.gregorian.proofs.Unique.{julian_only}
use Rattle.conversion.proofs.accepts.Reads as Accepts
use Rattle.conversion.proofs.bs_month_len.Reads as BsMonthLen
use Rattle.conversion.proofs.validate_bs_date.Reads as ValidateBsDate
use Rattle.conversion.proofs.bs_to_ad.Reads as BsToAd
use Rattle.conversion.proofs.ad_to_bs.Reads as AdToBs
use Rattle.trig.proofs.sine.Reads as Sine
use Rattle.trig.proofs.cosine.Reads as Cosine
use Rattle.trig.proofs.tangent.Reads as Tangent
use Rattle.trig.proofs.arcsine.Reads as Arcsine
use Rattle.trig.proofs.arccosine.Reads as Arccosine
use Rattle.sky.proofs.time.delta_t.Reads as DeltaT
use Rattle.sky.proofs.tt_from_ut.Reads as TtFromUt
use Rattle.sky.proofs.sun_longitude.Reads as SunLongitude
use Rattle.sky.proofs.moon_longitude.Reads as MoonLongitude
use Rattle.sky.proofs.elongation.Reads as Elongation
use Rattle.sky.proofs.tithi_at.Reads as TithiAt
use Rattle.sky.proofs.tithi.tithi_of.Reads as TithiOf
use Rattle.sky.proofs.tithi_starts_between.Reads as TithiStarts
use Rattle.sky.proofs.tithi_end.Reads as TithiEnd
use Rattle.sky.proofs.Unique.{tt_only, starts_only, instant_only}
use Rattle.panchanga.proofs.sun_events.Reads as SunEvents
use Rattle.panchanga.proofs.sunrise.Reads as Sunrise
use Rattle.panchanga.proofs.sunset.Reads as Sunset
use Rattle.panchanga.proofs.nishita_window.Reads as NishitaWindow
use Rattle.panchanga.proofs.kala_instant.Reads as KalaInstant
use Rattle.panchanga.proofs.clock.minutes_of.Reads as MinutesOf
use Rattle.panchanga.proofs.npt_clock.Reads as NptClock
use Rattle.panchanga.proofs.reading.Reads as Reading
use Rattle.panchanga.proofs.Unique.{span_only}
use Rattle.rules.proofs.accepts_rules.Reads as AcceptsRules
use Rattle.festivals.proofs.festivals_on.Reads as FestivalsOn
use Rattle.festivals.proofs.festivals_on_ad.Reads as FestivalsOnAd
use Rattle.grid.proofs.step_month.Reads as StepMonth
use Rattle.grid.proofs.month_grid.Reads as MonthGrid
use Rattle.holiday.proofs.is_holiday.Reads as IsHoliday
use Rattle.kept.specs.Held.{Ready}
use Rattle.kept.proofs.start.Reads as KeptStart
use Rattle.kept.proofs.take_rules.Reads as KeptTake
use Rattle.kept.proofs.append_row.Reads as KeptAppend
use Rattle.kept.proofs.forget.Reads as KeptForget
use Rattle.kept.proofs.stored.Reads as KeptStored
use Rattle.kept.proofs.asking.ask_bs.Reads as KeptBs
use Rattle.kept.proofs.asking.ask_ad.Reads as KeptAd
use Rattle.kept.proofs.months.ask_month.Reads as KeptMonth
use Rattle.kept.proofs.converting.bs_to_ad.Reads as KeptToAd
use Rattle.kept.proofs.converting.ad_to_bs.Reads as KeptToBs
use Rattle.kept.proofs.Unique.{holds_only, started_only, done_only, asked_only, month_only, stored_only}
use Rattle.steady.specs.Once.{OneAnswer, OneOutcome, OneAnswerIf, OneOutcomeIf}

pub both : {A B : Type 0} {x y : A} {u v : B} → x ≡ y → u ≡ v → ◌≡◌ {A = A × B} (x, u) (y, v)
both e h = rw (e, h)

-- ---- gregorian

pub date_new : OneAnswer DateNew.Learnt
date_new k a x y s t p q = p ∙ sym q

pub day_number_law : OneAnswer DayNumber.Learnt
day_number_law k a x y s t p q = p ∙ sym q

pub weekday : OneAnswer Weekday.Learnt
weekday k a x y s t p q = p ∙ sym q

pub date_next : OneAnswer DateNext.Learnt
date_next k a x y s t p q = p ∙ sym q

pub from_day_number : OneAnswer FromDayNumber.Learnt
from_day_number k a x y s t p q = p ∙ sym q

pub is_instant : OneAnswer IsInstant.Learnt
is_instant k a x y s t p q = p ∙ sym q

pub julian_day : OneAnswer JulianDay.Learnt
julian_day k a x y s t p q = julian_only x y (p ∙ sym q)

pub npt_date : OneAnswer NptDate.Learnt
npt_date k a x y s t p q = p ∙ sym q

-- ---- conversion

pub accepts : OneAnswer Accepts.Learnt
accepts k a x y s t p q = p ∙ sym q

pub bs_month_len : OneAnswer BsMonthLen.Learnt
bs_month_len k a x y s t p q = p ∙ sym q

pub validate_bs_date : OneAnswer ValidateBsDate.Learnt
validate_bs_date k a x y s t p q = p ∙ sym q

pub bs_to_ad : OneAnswer BsToAd.Learnt
bs_to_ad k a x y s t p q = p ∙ sym q

pub ad_to_bs : OneAnswer AdToBs.Learnt
ad_to_bs k a x y s t p q = p ∙ sym q

-- ---- trig

pub sine : OneAnswer Sine.Learnt
sine k a x y s t p q = p ∙ sym q

pub cosine : OneAnswer Cosine.Learnt
cosine k a x y s t p q = p ∙ sym q

pub tangent : OneAnswer Tangent.Learnt
tangent k a x y s t p q = p ∙ sym q

pub arcsine : OneAnswer Arcsine.Learnt
arcsine k a x y s t p q = p ∙ sym q

pub arccosine : OneAnswer Arccosine.Learnt
arccosine k a x y s t p q = p ∙ sym q

-- ---- sky

pub delta_t_law : OneAnswer DeltaT.Learnt
delta_t_law k a x y s t p q = p ∙ sym q

pub tt_from_ut : OneAnswer TtFromUt.Learnt
tt_from_ut k a x y s t p q = tt_only x y (p ∙ sym q)

pub sun_longitude_law : OneAnswer SunLongitude.Learnt
sun_longitude_law k a x y s t p q = p ∙ sym q

pub moon_longitude_law : OneAnswer MoonLongitude.Learnt
moon_longitude_law k a x y s t p q = p ∙ sym q

pub elongation : OneAnswer Elongation.Learnt
elongation k a x y s t p q = p ∙ sym q

pub tithi_at : OneAnswer TithiAt.Learnt
tithi_at k a x y s t p q = p ∙ sym q

pub tithi_of_law : OneAnswer TithiOf.Learnt
tithi_of_law k a x y s t p q = p ∙ sym q

-- the buffer is the fourth parameter
pub tithi_starts_between : OneOutcome TithiStarts.Learnt (λ k s. s.1.1.1.0.now)
tithi_starts_between k a x y s t p q = (starts_only x y (p.0 ∙ sym q.0), p.1 ∙ sym q.1)

pub tithi_end : OneAnswer TithiEnd.Learnt
tithi_end k a x y s t p q = instant_only x y (p ∙ sym q)

-- ---- panchanga

pub sun_events_law : OneAnswer SunEvents.Learnt
sun_events_law k a x y s t p q = span_only x y (p ∙ sym q)

pub sunrise : OneAnswer Sunrise.Learnt
sunrise k a x y s t p q = instant_only x y (p ∙ sym q)

pub sunset : OneAnswer Sunset.Learnt
sunset k a x y s t p q = instant_only x y (p ∙ sym q)

pub nishita_window : OneAnswer NishitaWindow.Learnt
nishita_window k a x y s t p q = span_only x y (p ∙ sym q)

pub kala_instant : OneAnswer KalaInstant.Learnt
kala_instant k a x y s t p q = instant_only x y (p ∙ sym q)

pub minutes_of_law : OneAnswer MinutesOf.Learnt
minutes_of_law k a x y s t p q = p ∙ sym q

pub npt_clock : OneAnswer NptClock.Learnt
npt_clock k a x y s t p q = p ∙ sym q

pub reading : OneAnswer Reading.Learnt
reading k a x y s t p q = p ∙ sym q

-- ---- rules

pub accepts_rules : OneAnswer AcceptsRules.Learnt
accepts_rules k a x y s t p q = p ∙ sym q

-- ---- festivals

-- the buffer is the seventh parameter
pub festivals_on : OneOutcome FestivalsOn.Learnt (λ k s. s.1.1.1.1.1.1.0.now)
festivals_on k a x y s t p q = (p.0 ∙ sym q.0, p.1 ∙ sym q.1)

-- the buffer is the seventh parameter
pub festivals_on_ad : OneOutcome FestivalsOnAd.Learnt (λ k s. s.1.1.1.1.1.1.0.now)
festivals_on_ad k a x y s t p q = (p.0 ∙ sym q.0, p.1 ∙ sym q.1)

-- ---- grid

pub step_month_law : OneAnswer StepMonth.Learnt
step_month_law k a x y s t p q = p ∙ sym q

-- cells and festivals are the seventh and eighth parameters
pub month_grid_law : OneOutcome {B = List ℕ × List ℕ} MonthGrid.Learnt (λ k s. (s.1.1.1.1.1.1.0.now, s.1.1.1.1.1.1.1.0.now))
month_grid_law k a x y s t p q = (p.0 ∙ sym q.0, both (p.1.0 ∙ sym q.1.0) (p.1.1 ∙ sym q.1.1))

-- ---- holiday

pub is_holiday : OneAnswer IsHoliday.Learnt
is_holiday k a x y s t p q = p ∙ sym q

-- ---- kept: of a record that a call made, which is the first parameter

pub kept_start : OneAnswer KeptStart.Learnt
kept_start k a x y s t p q = started_only x y _ p q

pub kept_take : OneAnswerIf (λ k a. Ready a.0) KeptTake.Learnt
kept_take k a w x y s t p q = done_only x y _ (p w) (q w)

pub kept_append : OneAnswerIf (λ k a. Ready a.0) KeptAppend.Learnt
kept_append k a w x y s t p q = done_only x y _ (p w) (q w)

pub kept_forget : OneAnswerIf (λ k a. Ready a.0) KeptForget.Learnt
kept_forget k a w x y s t p q = holds_only x y _ (p w) (q w)

pub kept_stored : OneAnswer KeptStored.Learnt
kept_stored k a x y s t p q = stored_only x y (p ∙ sym q)

-- the buffer is the fifth parameter
pub kept_bs : OneOutcomeIf (λ k a. Ready a.0) KeptBs.Learnt (λ k s. s.1.1.1.1.0.now)
kept_bs k a w x y s t p q = asked_only x y _ _ _ (p w) (q w)

pub kept_ad : OneOutcomeIf (λ k a. Ready a.0) KeptAd.Learnt (λ k s. s.1.1.1.1.0.now)
kept_ad k a w x y s t p q = asked_only x y _ _ _ (p w) (q w)

-- cells and festivals are the fifth and sixth parameters
pub kept_month_law : OneOutcomeIf {B = List ℕ × List ℕ} (λ k a. Ready a.0) KeptMonth.Learnt (λ k s. (s.1.1.1.1.0.now, s.1.1.1.1.1.0.now))
kept_month_law k a w x y s t p q = let m = month_only x y _ _ _ _ _ (p w) (q w) in (m.0, both m.1.0 m.1.1)

pub kept_to_ad : OneAnswerIf (λ k a. Ready a.0) KeptToAd.Learnt
kept_to_ad k a w x y s t p q = p w ∙ sym (q w)

pub kept_to_bs : OneAnswerIf (λ k a. Ready a.0) KeptToBs.Learnt
kept_to_bs k a w x y s t p q = p w ∙ sym (q w)
