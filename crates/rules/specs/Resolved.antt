-- A resolved year in sixty-four places, one for each computed rule in list order, and a day's list from two of them. Assumes nothing.
use Rattle.std.specs.Prelude.{ℕ, ◌+◌, ◌-◌, Bool, cond, not, ◌&&◌, List, [], ◌∷◌, ◌++◌, leb, eqb, get_or, set, replicate, None, Option, Some}
use Rattle.gregorian.specs.Calendar.{date_of}
use Rattle.conversion.specs.declared.BsDate.{BsDate}
use Rattle.conversion.specs.Calendar.{Calendar}
use Rattle.rules.specs.declared.Rule.{Rule}
use Rattle.rules.specs.declared.lists.Day.{Day}
use Rattle.rules.specs.declared.lists.Years.{Years}
use Rattle.rules.specs.Sky.{Sky}
use Rattle.rules.specs.Festivals.{entry, Pair, picked, kept, silenced, is_fixed, is_gregorian, is_override}

-- ---- the places

-- an entry takes its place; nothing leaves it at 0
unfoldable pub put_entry : List ℕ → ℕ → Option ℕ → List ℕ
put_entry d j (Some n) = set d j n
put_entry d j None = d

-- the entries of the rules of kind 3, from place j on
unfoldable pub filled : {I : Type 0} → Sky I → Calendar → ℕ → List ℕ → ℕ → List Rule → List ℕ
filled s c y d j [] = d
filled s c y d j (r ∷ rs) =
    cond (eqb r.kind 3) (filled s c y (put_entry d j (entry s c y r)) (j + 1) rs) (filled s c y d j rs)

-- the computed entries of year y
unfoldable pub resolved : {I : Type 0} → Sky I → Calendar → ℕ → List Rule → List ℕ
resolved s c y rs = filled s c y (replicate 64 0) 0 rs

-- the two years that the lists of month m of year y come from; past month 2 the year before is not resolved, and all its places are 0
unfoldable pub years_for : {I : Type 0} → Sky I → Calendar → List Rule → ℕ → ℕ → Years
years_for s c rs y m =
    record {
      before = record { days = cond (leb m 2) (resolved s c (y - 1) rs) (replicate 64 0) };
      this = record { days = resolved s c y rs };
    }

-- ---- a day's list

-- day number n, whose BS date is t
abbrev pub day_numbered : BsDate → ℕ → Day
day_numbered t n = record { bs = t; ad = date_of n; number = n }

-- a computed rule with this name, entered at day k, shows on day n of year y
abbrev pub shows : List Rule → ℕ → ℕ → ℕ → ℕ → Bool
shows rs y name k n = eqb k n && not (silenced rs y name)

-- the pairs of the rules of kind 3 whose place, from j on, shows on day n of year y
unfoldable pub used : List Rule → ℕ → List ℕ → ℕ → ℕ → List Rule → List Pair
used rules y d n j [] = []
used rules y d n j (r ∷ rs) =
    cond (eqb r.kind 3)
    (cond (shows rules y r.name (get_or d j 0) n) ((r.name, r.holiday) ∷ used rules y d n (j + 1) rs) (used rules y d n (j + 1) rs))
    (used rules y d n j rs)

-- a rule of kind k with a date of its own falls on the day
abbrev pub falls : ℕ → Day → Rule → Bool
falls k q r = cond (eqb k 1) (is_fixed q.bs r) (cond (eqb k 2) (is_gregorian q.ad r) (is_override q.bs r))

-- the pairs of a resolved year on day n of year y
abbrev pub used_in : List Rule → ℕ → List ℕ → ℕ → List Pair
used_in rs y d n = used rs y d n 0 rs

-- the year before is asked in months 1 and 2 only
abbrev pub used_early : List Rule → Day → List ℕ → List Pair
used_early rs q d = cond (leb q.bs.month 2) (used_in rs q.bs.year d q.number) []

-- the day's pairs from its two resolved years
unfoldable pub pairs_by : List Rule → Day → Years → List Pair
pairs_by rs q ys =
    picked (falls 1 q) rs
    ++ picked (falls 2 q) rs
    ++ used_early rs q ys.before.days
    ++ used_in rs q.bs.year ys.this.days q.number
    ++ picked (falls 4 q) rs

unfoldable pub list_by : List Rule → Day → Years → List Pair
list_by rs q ys = kept (pairs_by rs q ys)
