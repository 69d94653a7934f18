-- What each public call answers: the value, or its refusal (docs/RULES.md, Refusals). And what each enum of the code says, in these words. Assumes nothing.
use Rattle.std.specs.Prelude.{ℕ, ◌+◌, cond, Float, Err, None, Ok, Option, Some}
use Rattle.paper.specs.Answers.{Answer, given, then}
use Rattle.paper.specs.declared.Refusal.TheVariants.{OutOfRange}
use Rattle.gregorian.specs.declared.Date.{Date}
use Rattle.gregorian.specs.Answers.{number_answer, next_answer}
use Rattle.gregorian.specs.Instants.{instant}
use Rattle.panchanga.specs.declared.Kala.{Kala}
use Rattle.panchanga.specs.declared.Span.{Span}
use Rattle.panchanga.specs.declared.lunar.Reading.{Reading}
use Rattle.panchanga.specs.Clock.{clock_of}
use Rattle.panchanga.specs.Noaa.{events_on, kathmandu}
use Rattle.panchanga.specs.Kalas.{kala_at, is_nishita, nishita_between, middle}
use Rattle.panchanga.specs.Reading.{reading_of}

-- ---- what the enums say
-- two instants, or none
abbrev pub span_is : Option Span → Option (Float × Float)
span_is (Some s) = Some (s.from.0, s.to.0)
span_is None = None

abbrev pub span_says : Answer (Option Span) → Answer (Option (Float × Float))
span_says (Ok o) = Ok (span_is o)
span_says (Err k) = Err k

-- ---- what the calls answer
-- what is made of two instants, where there are some
abbrev pub mapped : {A B : Type 0} → (A → B) → Option A → Option B
mapped f None = None
mapped f (Some a) = Some (f a)

abbrev pub chosen : {A B : Type 0} → (A → B) → Answer (Option A) → Answer (Option B)
chosen f a = then a (λ o. Ok (mapped f o))

-- sunrise and sunset over Kathmandu
abbrev pub events_answer : Date → Answer (Option (Float × Float))
events_answer x = then (number_answer x) (λ n. Ok (events_on kathmandu n))

abbrev pub rise_answer : Date → Answer (Option Float)
rise_answer x = chosen (λ e. e.0) (events_answer x)

abbrev pub set_answer : Date → Answer (Option Float)
set_answer x = chosen (λ e. e.1) (events_answer x)

-- the last date has no next, and so no night
abbrev pub nishita_answer : Date → Answer (Option (Float × Float))
nishita_answer x =
    then (next_answer x) (λ _. then (number_answer x) (λ n. Ok (nishita_between (events_on kathmandu n) (events_on kathmandu (n + 1)))))

-- nishita's middle; any other kala by the day's own events
abbrev pub kala_answer : Kala → Date → Answer (Option Float)
kala_answer k x = cond (is_nishita k) (chosen middle (nishita_answer x)) (chosen (λ e. kala_at k e.0 e.1) (events_answer x))

-- the clock's minute at an instant
abbrev pub clock_answer : Float → Answer ℕ
clock_answer x = given (instant x) OutOfRange (Ok (clock_of x))

-- a date's reading
abbrev pub reading_answer : Date → Answer Reading
reading_answer x = then (number_answer x) (λ n. Ok (reading_of kathmandu x n))
