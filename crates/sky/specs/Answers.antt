-- What the public calls answer: the value, or its refusal (docs/RULES.md, Refusals). And what each enum of the code says, in these words. Assumes nothing.
use Rattle.std.specs.Prelude.{ℕ, Bool, ◌&&◌, List, ◌++◌, leb, length, drop, Float, Err, None, Ok, Option, Some}
use Rattle.paper.specs.Answers.{Answer, given}
use Rattle.paper.specs.Floats.{◌⊕◌, dec}
use Rattle.paper.specs.declared.Refusal.TheVariants.{OutOfRange, NoRoom, NotEnded}
use Rattle.gregorian.specs.Instants.{instant}
use Rattle.sky.specs.Time.{tt_of, tt_day, julian_centuries}
use Rattle.sky.specs.Sun.{sun_longitude}
use Rattle.sky.specs.Moon.{moon_longitude}
use Rattle.sky.specs.Tithi.{elongation_of, tithi_of}
use Rattle.sky.specs.Search.{starts_of, end_of}
use Rattle.sky.specs.declared.TtDay.{TtDay}
use Rattle.gregorian.specs.declared.UtDay.{UtDay}
use Rattle.sky.specs.declared.Starts.{Starts}

abbrev pub tt_says : Answer TtDay → Answer Float
tt_says (Ok t) = Ok t.0
tt_says (Err k) = Err k

-- the day of terrestrial time at an instant
abbrev pub tt_answer : Float → Answer Float
tt_answer ut = given (instant ut) OutOfRange (Ok (tt_of ut))

-- the sun's longitude on a day of terrestrial time
abbrev pub sun_answer : Float → Answer Float
sun_answer tt = given (tt_day tt) OutOfRange (Ok (sun_longitude (julian_centuries tt)))

-- the moon's longitude on a day of terrestrial time
abbrev pub moon_answer : Float → Answer Float
moon_answer tt = given (tt_day tt) OutOfRange (Ok (moon_longitude (julian_centuries tt)))

-- the elongation at an instant
abbrev pub elongation_answer : Float → Answer Float
elongation_answer ut = given (instant ut) OutOfRange (Ok (elongation_of ut))

-- the tithi running at an instant
abbrev pub tithi_answer : Float → Answer ℕ
tithi_answer ut = given (instant ut) OutOfRange (Ok (tithi_of (elongation_of ut)))

abbrev pub first_says : Option UtDay → Option Float
first_says (Some t) = Some t.0
first_says None = None

-- the number of starts and of steps
abbrev pub starts_says : Answer Starts → Answer (ℕ × ℕ)
starts_says (Ok s) = Ok (s.count, s.steps)
starts_says (Err k) = Err k

-- a tithi from 1 to 30 and two instants
unfoldable pub query : ℕ → Float → Float → Bool
query n a b = (leb 1 n && leb n 30) && (instant a && instant b)

-- the starts of tithi n from a to b, for a buffer with room for so many
unfoldable pub starts_answer : ℕ → Float → Float → ℕ → Answer (ℕ × ℕ)
starts_answer n a b room =
    let w = starts_of n a b in
    given (query n a b) OutOfRange
    (given w.ended NotEnded
    (given (leb (length w.starts) room) NoRoom
    (Ok (length w.starts, w.steps))))

-- what a buffer holds after an answer: what was written; after a refusal: what it held
unfoldable pub held : {A B : Type 0} → Answer A → B → B → B
held (Ok x) written before = written
held (Err k) written before = before

-- what the lent buffer holds then: the starts, and behind them what it held
unfoldable pub starts_buffer : ℕ → Float → Float → List Float → List Float
starts_buffer n a b out = let l = (starts_of n a b).starts in held (starts_answer n a b (length out)) (l ++ drop (length l) out) out

abbrev pub instant_says : Answer (Option UtDay) → Answer (Option Float)
instant_says (Ok o) = Ok (first_says o)
instant_says (Err k) = Err k

-- where the tithi running at an instant ends: refused too where two and a half days on are no instant
abbrev pub end_answer : Float → Answer (Option Float)
end_answer ut =
    given (instant ut) OutOfRange
    (given (instant (ut ⊕ dec 25 1)) OutOfRange
    (Ok (end_of (tithi_of (elongation_of ut)) ut)))
