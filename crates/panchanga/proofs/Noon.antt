-- On every date the noon of every longitude is an instant, and so is the morning that stands for a sunrise. Assumes nothing.
use Rattle.std.proofs.Common.{ℕ, ◌+◌, ◌-◌, ◌*◌, ◌^◌, ◌<◌, ◌≤◌, ◌&&◌, T, ltb, leb, pos, subst, arith, lit<, lit≤}
use lib.Ieee.{Float, neg, div, le, of_int}
use lib.Ieee.Fits.{and_l, and_r, and_i}
use lib.Ieee.Positive.{num, den, positive}
use Rattle.paper.specs.Floats.{◌⊕◌, ◌⊖◌, near, dec, whole}
use Rattle.gregorian.specs.Calendar.{first_number, all_days}
use Rattle.gregorian.specs.Instants.{instant, zero_of, npt_offset}
use Rattle.gregorian.proofs.Laws.{all_number}
use Rattle.panchanga.specs.Noaa.{noon_at}
use Rattle.paper.proofs.Within.{Within, clamped, negated, sub_is, lit, got, ◌⊟◌, ◌⧄◌, within}
use Rattle.paper.proofs.Between.{Between, round_span, nearby, at_least, at_most}

-- ---- on a day with a date's number
abbrev pub Dated : ℕ → Type 0
Dated n = (first_number ≤ n) × (n < first_number + all_days)

day_between : (n : ℕ) → Dated n → Between 2415021 2506331 (whole (pos n))
unfolding of_int
day_between n h = record { span = round_span n 1 2415021 2506331 (lit< tt) (lit< tt) (lit≤ tt) (lit< tt) (omega arith) (omega (arith, all_number)) }

-- less what is small
beside : {L H D : ℕ} {x y : Float} → Between L H x → Within 0 D y → T (ltb D L && (leb L H && ltb (H + D) (2 ^ 53))) → Between (L - D) (H + D) (x ⊖ y)
beside {L} {H} {D} {x} {y} p q t = subst (Between (L - D) (H + D)) (sub_is x y) (nearby p (negated q) t)

pub zero_between : (n : ℕ) → Dated n → Between 2415020 2506332 (zero_of n)
unfolding zero_of near
zero_between n h = beside (day_between n h) (within 1 (lit (dec 5 1)) tt) tt

-- a longitude from -180 to 180
noon_between : (lon : Float) (n : ℕ) → T (le (neg (dec 180 0)) lon && le lon (dec 180 0)) → Dated n → Between 2415018 2506334 (noon_at lon (zero_of n))
unfolding noon_at near
noon_between lon n t h =
    let l = clamped 0 180 (dec 180 0) (and_l (le (neg (dec 180 0)) lon) (le lon (dec 180 0)) t) (and_r (le (neg (dec 180 0)) lon) (le lon (dec 180 0)) t) tt in
    beside (nearby (zero_between n h) (within 1 (lit (dec 5 1)) tt) tt) (within 1 (got l ⧄ dec 360 0) tt) tt

-- what lies between two whole numbers that are instants
abbrev first : Float
first = dec 2400000 0

abbrev last : Float
last = dec 2510000 0

is_instant : {L H : ℕ} {x : Float} → Between L H x → T (ltb 0 L && (positive first && leb (num first) (L * den first))) → T (ltb 0 L && (positive last && leb (H * den last) (num last))) → T (instant x)
unfolding instant
is_instant {L} {H} {x} p a b = and_i (le first x) (le x last) (at_least first p a) (at_most last p b)

pub noon_instant : (lon : Float) (n : ℕ) → T (le (neg (dec 180 0)) lon && le lon (dec 180 0)) → Dated n → T (instant (noon_at lon (zero_of n)))
unfolding near
noon_instant lon n t h = is_instant (noon_between lon n t h) tt tt

-- ---- the morning, a quarter of the day in Nepal
morning_between : (n : ℕ) → Dated n → Between 2415017 2506335 (zero_of n ⊕ (dec 25 2 ⊖ npt_offset))
unfolding near div
morning_between n h = nearby (zero_between n h) (within 3 (lit (dec 25 2) ⊟ lit npt_offset) tt) tt

pub morning_instant : (n : ℕ) → Dated n → T (instant (zero_of n ⊕ (dec 25 2 ⊖ npt_offset)))
unfolding near
morning_instant n h = is_instant (morning_between n h) tt tt

pub morning_later : (n : ℕ) → Dated n → T (instant (zero_of n ⊕ (dec 25 2 ⊖ npt_offset) ⊕ dec 25 1))
unfolding near
morning_later n h = is_instant (nearby (morning_between n h) (within 3 (lit (dec 25 1)) tt) tt) tt tt
