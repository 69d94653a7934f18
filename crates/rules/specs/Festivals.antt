-- The festival rules (docs/RULES.md, Festivals), over any calendar and any sky. Assumes nothing.
use Rattle.std.specs.Prelude.{ℕ, ◌+◌, ◌-◌, ◌*◌, Bool, true, false, cond, not, ◌&&◌, ◌||◌, List, [], ◌∷◌, ◌++◌, leb, eqb, length, drop, Err, None, Ok, Option, Some}
use Rattle.paper.specs.declared.Refusal.TheVariants.{NoSuchDate, NoRoom}
use Rattle.paper.specs.Answers.{Answer, given, then}
use Rattle.gregorian.specs.declared.Date.{Date}
use Rattle.gregorian.specs.Calendar.{is_date, day_number, date_of}
use Rattle.conversion.specs.declared.BsDate.{BsDate}
use Rattle.conversion.specs.Calendar.{Calendar, year_ok, day_at, to_day, from_day}
use Rattle.rules.specs.declared.Rule.{Rule}
use Rattle.rules.specs.Lent.{lent}
use Rattle.rules.specs.Sky.{Sky}
use Rattle.rules.specs.Days.{next, holds, festival_day}

-- ---- a BS year

-- a test of a date; a day outside the table fails it
unfoldable pub dated : Answer BsDate → (BsDate → Bool) → Bool
dated (Ok t) p = p t
dated (Err k) p = false

-- the last of a list that passes, or else what is given
unfoldable pub last_of : {A : Type 0} → (A → Bool) → Option A → List A → Option A
last_of p a [] = a
last_of p a (x ∷ xs) = last_of p (cond (p x) (Some x) a) xs

abbrev pub first_day : Calendar → ℕ → ℕ
first_day c y = day_at c (y - c.first) 0 0

abbrev pub last_day : Calendar → ℕ → ℕ
last_day c y = day_at c (y - c.first) 11 (c.len (y - c.first) 11 - 1)

-- the tithi of a computed rule, 1 to 30
abbrev pub tithi : Rule → ℕ
tithi r = r.day + 15 * r.half

-- a day outside the table is nothing
unfoldable pub in_table : Calendar → ℕ → Option ℕ
in_table c n = cond (dated (from_day c n) (λ t. true)) (Some n) None

-- where a tithi begins, by its new moon: tithi 1 begins at the new moon itself
unfoldable pub beginning : {I : Type 0} → Sky I → ℕ → I → Option I
beginning s t x = cond (eqb t 1) (Some x) (s.start_of t x)

module _ {I : Type 0} (s : Sky I) (c : Calendar) where
  -- the new moons of year y; a year not in the table has none
  unfoldable pub moons : ℕ → List I
  moons y = cond (c.good && year_ok c y) (s.new_moons (first_day c y) (last_day c y)) []

  -- an instant lies in month m of year y, by its day in Nepal
  unfoldable pub in_month : ℕ → ℕ → I → Bool
  in_month y m x = holds (s.day_of x) (λ n. dated (from_day c n) (λ t. eqb t.year y && eqb t.month m))

  -- the new moon that opens lunar month m of year y: the last in the solar month
  unfoldable pub opening : ℕ → ℕ → Option I
  opening y m = last_of (in_month y m) None (moons y)

  -- the day of a computed rule in year y, in the table or not
  unfoldable pub rule_day : ℕ → Rule → Option ℕ
  rule_day y r =
      next (opening y r.month) (λ x. next (beginning s (tithi r) x) (λ b. festival_day s (tithi r) r.kala b))

  -- the computed entry of a rule in year y
  unfoldable pub entry : ℕ → Rule → Option ℕ
  entry y r = next (rule_day y r) (in_table c)

  unfoldable pub entry_on : ℕ → Rule → ℕ → Bool
  entry_on y r n = holds (entry y r) (λ k. eqb k n)

-- ---- a day's list

-- a name and its holiday mark
abbrev pub Pair : Type 0
Pair = ℕ × ℕ

-- the pairs of the rules that f picks, in list order
unfoldable pub picked : (Rule → Bool) → List Rule → List Pair
picked f [] = []
picked f (r ∷ rs) = cond (f r) ((r.name, r.holiday) ∷ picked f rs) (picked f rs)

unfoldable pub any : (Rule → Bool) → List Rule → Bool
any f [] = false
any f (r ∷ rs) = f r || any f rs

-- neighbours with equal names keep the first
unfoldable pub kept_after : ℕ → List Pair → List Pair
kept_after last [] = []
kept_after last (e ∷ es) = cond (eqb e.0 last) (kept_after last es) (e ∷ kept_after e.0 es)

unfoldable pub kept : List Pair → List Pair
kept [] = []
kept (e ∷ es) = e ∷ kept_after e.0 es

abbrev pub overrides : ℕ → ℕ → Rule → Bool
overrides y name r = eqb r.kind 4 && eqb r.year y && eqb r.name name

-- which computed rules are silenced in year y: those with the name of an override of that year
unfoldable pub silenced : List Rule → ℕ → ℕ → Bool
silenced rs y name = any (overrides y name) rs

abbrev pub is_fixed : BsDate → Rule → Bool
is_fixed t r = eqb r.kind 1 && eqb r.month t.month && eqb r.day t.day

abbrev pub is_gregorian : Date → Rule → Bool
is_gregorian g r = eqb r.kind 2 && eqb r.month g.month && eqb r.day g.day

abbrev pub is_override : BsDate → Rule → Bool
is_override t r = eqb r.kind 4 && eqb r.year t.year && eqb r.month t.month && eqb r.day t.day

module _ {I : Type 0} (s : Sky I) (c : Calendar) (rs : List Rule) where
  -- a computed rule, resolved in year y, falls on the day, and the day's own year does not silence it
  unfoldable pub is_computed : ℕ → BsDate → ℕ → Rule → Bool
  is_computed y t n r = eqb r.kind 3 && entry_on s c y r n && not (silenced rs t.year r.name)

  -- day number n, whose BS date is t: kind 1, kind 2, computed from the year before, computed from this year, kind 4
  unfoldable pub day_pairs : BsDate → ℕ → List Pair
  day_pairs t n =
      picked (is_fixed t) rs
      ++ picked (is_gregorian (date_of n)) rs
      ++ cond (leb t.month 2) (picked (is_computed (t.year - 1) t n) rs) []
      ++ picked (is_computed t.year t n) rs
      ++ picked (is_override t) rs

  unfoldable pub day_list : BsDate → ℕ → List Pair
  day_list t n = kept (day_pairs t n)

  -- ---- the questions; ok says whether the rules are good
  module _ (ok : Bool) where
    -- asked by BS date: refusals 1, 2, 4, 5, 6
    unfoldable pub listOnBs : ℕ → ℕ → ℕ → Answer (List Pair)
    listOnBs y m d = lent c ok (then (to_day c y m d) (λ n. Ok (day_list (record { year = y; month = m; day = d }) n)))

    -- asked by Gregorian date: refusals 1, 2, 3, 7
    unfoldable pub listOnAd : ℕ → ℕ → ℕ → Answer (List Pair)
    listOnAd y m d =
        let n = day_number (record { year = y; month = m; day = d }) in
        lent c ok (given (is_date y m d) NoSuchDate (then (from_day c n) (λ t. Ok (day_list t n))))

-- ---- what is answered and written

abbrev pub numbers : List Pair → List ℕ
numbers [] = []
numbers (e ∷ es) = e.0 ∷ e.1 ∷ numbers es

-- an answer, and the lent buffer as it then stands
pub record Listed : Type 0 where
  pub answer : Answer ℕ
  pub buffer : List ℕ

-- a list that fits is written from the front, its count is answered, and what lies past it stays; no room where it does not fit. A refusal changes nothing
unfoldable pub listed : Answer (List Pair) → List ℕ → Listed
listed (Ok l) out =
    cond (leb (length l * 2) (length out))
    (record { answer = Ok (length l); buffer = numbers l ++ drop (length l * 2) out })
    (record { answer = Err NoRoom; buffer = out })
listed (Err k) out = record { answer = Err k; buffer = out }
