-- Examples 7.a, 25.a and 47.a of Meeus, Astronomical Algorithms, second edition: the definitions give what the book prints of the Julian day, the mean angles and the longitudes, by
-- computation. Assumes nothing.
-- An f64 is held to the printed decimals as a fraction, exactly. Each number is the printed one when it is rounded to as many digits, but for the sun's longitude, where one unit of the last
-- digit is left. The moon needs no more room: the engine's sixty rows are all that the book sums for the longitude.
use lib.Dec.{T}
use lib.Ieee.{Float, neg, add, sub, mul, div, rem, le, lt, eq, of_int, of_bits}
use Rattle.paper.specs.Floats.{◌⊕◌, near, dec}
use Rattle.gregorian.specs.Calendar.{is_date, meeus_day}
use Rattle.gregorian.specs.Instants.{instant, zero_hour, julian_answer}
use Rattle.trig.specs.Trig.{least, most, clamp, magnitude, turned, signed, turn_sign, sine_series, wave, swing, sine_above, sine}
use Rattle.sky.specs.Angles.{norm360, deg}
use Rattle.sky.specs.Time.{tt_day, julian_centuries}
use Rattle.sky.specs.Sun.{mean_longitude, anomaly, center, sun_longitude}
use Rattle.sky.specs.Moon.{mean_place, mean_elongation, sun_anomaly, moon_anomaly, argument_of_latitude, eccentricity_factor, moon_args, factor_power, zero_or, series, moon_sum, venus, jupiter, additive, moon_longitude}
use Rattle.sky.specs.Answers.{sun_answer, moon_answer}
use Rattle.sky.specs.Claims.{within, prints, answers}

-- ---- 7.a: 1957 October 4.81 is JD 2436116.31, of which the answer is the nearest f64

pub julian_day : T (answers (eq (dec 243611631 2)) (julian_answer (record { year = 1957; month = 10; day = 4 }) (dec 81 2)))
unfolding near is_date meeus_day zero_hour instant add le eq
julian_day = tt

-- ---- 25.a: the sun on 1992 October 13 at 0h TD, JDE 2448908.5

abbrev october : Float
october = julian_centuries (dec 24489085 1)

-- the centuries, T = -0.072183436
pub sun_centuries : T (prints 72183436 9 (neg october))
unfolding near julian_centuries sub div neg
sun_centuries = tt

-- the mean longitude, L0 = 201.80720
pub sun_mean : T (prints 20180720 5 (norm360 (mean_longitude october)))
unfolding near julian_centuries norm360 mean_longitude add sub mul div rem lt
sun_mean = tt

-- the mean anomaly, M = 278.99397
pub sun_anomaly_law : T (prints 27899397 5 (norm360 (anomaly october)))
unfolding near julian_centuries norm360 anomaly add sub mul div rem lt
sun_anomaly_law = tt

-- the equation of the center, C = -1.89732
pub sun_center : T (prints 189732 5 (neg (center october (anomaly october))))
unfolding near julian_centuries deg anomaly center sine signed turned sine_above magnitude swing wave turn_sign sine_series clamp least most neg add sub mul div le lt eq of_bits
sun_center = tt

-- the true longitude, 199.90988, to one unit of the last digit: the book adds its rounded L0 and C; rounded once the sum is 199.90987
pub sun_longitude_law : T (answers (within 2 19990988 5) (sun_answer (dec 24489085 1)))
unfolding near tt_day julian_centuries norm360 deg mean_longitude anomaly center sun_longitude sine signed turned sine_above magnitude swing wave turn_sign sine_series clamp least most neg add sub mul div rem le lt eq of_bits
sun_longitude_law = tt

-- ---- 47.a: the moon on 1992 April 12 at 0h TD, JDE 2448724.5

abbrev april : Float
april = julian_centuries (dec 24487245 1)

-- the centuries, T = -0.077221081451
pub moon_centuries : T (prints 77221081451 12 (neg april))
unfolding near julian_centuries sub div neg
moon_centuries = tt

-- the mean longitude, L' = 134.290182
pub moon_mean : T (prints 134290182 6 (norm360 (mean_place april)))
unfolding near julian_centuries norm360 mean_place add sub mul div rem lt
moon_mean = tt

-- the mean elongation, D = 113.842304
pub moon_elongation : T (prints 113842304 6 (norm360 (mean_elongation april)))
unfolding near julian_centuries norm360 mean_elongation add sub mul div rem lt
moon_elongation = tt

-- the sun's mean anomaly, M = 97.643514
pub moon_sun : T (prints 97643514 6 (norm360 (sun_anomaly april)))
unfolding near julian_centuries norm360 sun_anomaly add sub mul div rem lt
moon_sun = tt

-- the moon's mean anomaly, M' = 5.150833
pub moon_anomaly_law : T (prints 5150833 6 (norm360 (moon_anomaly april)))
unfolding near julian_centuries norm360 moon_anomaly add sub mul div rem lt
moon_anomaly_law = tt

-- the argument of latitude, F = 219.889721
pub moon_node : T (prints 219889721 6 (norm360 (argument_of_latitude april)))
unfolding near julian_centuries norm360 argument_of_latitude add sub mul div rem lt
moon_node = tt

-- the factor of terms in M, E = 1.000194
pub moon_factor : T (prints 1000194 6 (eccentricity_factor april))
unfolding near julian_centuries eccentricity_factor sub mul div
moon_factor = tt

-- the sum of the periodic and the additive terms, -1127527 millionths of a degree
pub moon_terms_law : T (prints 1127527 0 (neg (moon_sum (moon_args april) ⊕ additive april (moon_args april))))
unfolding near julian_centuries deg mean_place mean_elongation sun_anomaly moon_anomaly argument_of_latitude eccentricity_factor factor_power zero_or series moon_sum venus jupiter additive sine signed turned sine_above magnitude swing wave turn_sign sine_series clamp least most neg add sub mul div le lt eq of_int of_bits
moon_terms_law = tt

-- the longitude without nutation, 133.162655
pub moon_longitude_law : T (answers (prints 133162655 6) (moon_answer (dec 24487245 1)))
unfolding near tt_day julian_centuries norm360 deg mean_place mean_elongation sun_anomaly moon_anomaly argument_of_latitude eccentricity_factor factor_power zero_or series moon_sum venus jupiter additive moon_longitude sine signed turned sine_above magnitude swing wave turn_sign sine_series clamp least most neg add sub mul div rem le lt eq of_int of_bits
moon_longitude_law = tt
