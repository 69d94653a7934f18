-- The words of demand 3 for festivals: two calendars, of which the longer begins as the shorter does. Assumes nothing.
use Rattle.std.specs.Prelude.{ℕ, ◌+◌, ◌-◌, ◌≤◌, ◌<◌, ◌≡◌, Bool, List, ◌⊎◌, Err, None, Ok, Option, Some}
use Rattle.paper.specs.declared.Refusal.TheVariants.{NoYear, Before, After}
use Rattle.paper.specs.Answers.{Answer}
use Rattle.gregorian.specs.Calendar.{day_number}
use Rattle.conversion.specs.declared.BsDate.{BsDate}
use Rattle.conversion.specs.Calendar.{Calendar, outside, from_day}
use Rattle.conversion.specs.Flat.{date}
use Rattle.conversion.specs.Claims.{Added, added_days, RefusedIf}
use Rattle.rules.specs.declared.Rule.{Rule}
use Rattle.rules.specs.Sky.{Sky}
use Rattle.rules.specs.Festivals.{opening, entry, Pair, listed, listOnBs, listOnAd}

-- a day of a year that the longer adds
pub record AddedDay (short long : Calendar) (n : ℕ) : Type 0 where
  pub date : BsDate
  pub is : from_day long n ≡ Ok date
  pub added : Added short date.year

-- an entry is the same, or the longer alone has one, and it lies in an added year
abbrev pub SameEntry : Calendar → Calendar → Option ℕ → Option ℕ → Type 0
SameEntry short long a b = (a ≡ b) ⊎ ((n : ℕ) × ((a ≡ None) × ((b ≡ Some n) × AddedDay short long n)))

-- what the shorter answers the longer answers, with the same numbers written
pub record SameList (short long : Answer (List Pair)) (out : List ℕ) (l : List Pair) : Type 0 where
  pub answer : long ≡ Ok l
  pub written : listed long out ≡ listed short out

module _ {I : Type 0} (s : Sky I) (rs : List Rule) (ok : Bool) (out : List ℕ) (short long : Calendar) where
  pub record ListsStay : Type 0 where
    -- of a year of the shorter, or one before it: the lunar months are the same, and the computed entries, but those in an added year
    pub opens : (y m : ℕ) → y < short.first + short.years → opening s short y m ≡ opening s long y m
    pub entries : (y : ℕ) (r : Rule) → y < short.first + short.years → SameEntry short long (entry s short y r) (entry s long y r)
    -- every list that the shorter answers
    pub on_bs_law : (y m d : ℕ) (l : List Pair) → listOnBs s short rs ok y m d ≡ Ok l
        → SameList (listOnBs s short rs ok y m d) (listOnBs s long rs ok y m d) out l
    pub on_ad_law : (y m d : ℕ) (l : List Pair) → listOnAd s short rs ok y m d ≡ Ok l
        → SameList (listOnAd s short rs ok y m d) (listOnAd s long rs ok y m d) out l
    -- a list that the longer answers is refused by the shorter exactly if its day lies in an added year
    pub on_bs_added : (y m d : ℕ) (l : List Pair) → listOnBs s long rs ok y m d ≡ Ok l → RefusedIf (listOnBs s short rs ok y m d) NoYear (Added short y)
    pub on_ad_added : (y m d : ℕ) (l : List Pair) → listOnAd s long rs ok y m d ≡ Ok l
        → RefusedIf (listOnAd s short rs ok y m d) (outside short (day_number (date y m d))) (AddedDay short long (day_number (date y m d)))
    -- of a day outside, the days before the first day stay; those after the last become a list in an added year, or are fewer by the days added
    pub on_ad_before : (y m d k : ℕ) → listOnAd s short rs ok y m d ≡ Err (Before k) → listOnAd s long rs ok y m d ≡ Err (Before k)
    pub on_ad_reached : (y m d k : ℕ) → listOnAd s short rs ok y m d ≡ Err (After k) → k ≤ added_days short long
        → (l : List Pair) × ((listOnAd s long rs ok y m d ≡ Ok l) × AddedDay short long (day_number (date y m d)))
    pub on_ad_after : (y m d k : ℕ) → listOnAd s short rs ok y m d ≡ Err (After k) → added_days short long < k
        → listOnAd s long rs ok y m d ≡ Err (After (k - added_days short long))
