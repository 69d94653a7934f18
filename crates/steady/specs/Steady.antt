-- DEMAND 3, whole: the rows of one table are the first rows of a longer one. What the shorter answers the longer answers, with the same numbers in each
-- lent buffer; and what the longer answers the shorter refuses exactly if it lies in an added year. Assumes nothing.
use Rattle.std.specs.Prelude.{ℕ, ◌-◌, ◌≤◌, ◌<◌, ◌≡◌, List, ◌++◌, ℤ, Err, Ok}
use Rattle.paper.specs.declared.Refusal.{Refusal}
use Rattle.paper.specs.declared.Refusal.TheVariants.{NoYear, Before, After, OffTable}
use Rattle.paper.specs.Answers.{Answer}
use Rattle.gregorian.specs.declared.Date.{Date}
use Rattle.gregorian.specs.Calendar.{day_number}
use Rattle.conversion.specs.declared.Table.{Table}
use Rattle.conversion.specs.declared.BsDate.{BsDate}
use Rattle.conversion.specs.Calendar.{Calendar, month_len, valid_bs, to_ad, outside, from_ad}
use Rattle.conversion.specs.Flat.{flat, date}
use Rattle.conversion.specs.Claims.{Added, added_days, RefusedIf}
use Rattle.rules.specs.Longer.{AddedDay}
use Rattle.festivals.specs.Answers.{on_bs, on_ad}
use Rattle.grid.specs.Step.{step_month}
use Rattle.grid.specs.Kathmandu.{month_shown}
use Rattle.holiday.specs.Holiday.{holiday_on}

-- One question under the shorter and under the longer. `answer` reads the answer of all that is told, which may hold lent buffers as they then stand.
-- P says of an answer of the longer that it lies in an added year; k is the refusal that the shorter then gives.
pub record Stays {W A : Type 0} (answer : W → Answer A) (short long : W) (k : Refusal) (P : A → Type 0) : Type 0 where
  pub same : (x : A) → answer short ≡ Ok x → long ≡ short
  pub added : (x : A) → answer long ≡ Ok x → RefusedIf (answer short) k (P x)

-- where nothing is lent to write to, the answer is all that is told
abbrev pub AnswerStays : {A : Type 0} → Answer A → Answer A → Refusal → (A → Type 0) → Type 0
AnswerStays {A} short long k P = Stays {W = Answer A} (λ a. a) short long k P

-- How far outside a Gregorian date lies under the shorter and under the longer, which has so many days more: the days before the first day stay;
-- those after the last shrink by the days added, where that leaves one, and else Reached holds.
pub record OutsideStays {A : Type 0} (short long : Answer A) (days : ℕ) (Reached : Type 0) : Type 0 where
  pub before : (k : ℕ) → short ≡ Err (Before k) → long ≡ Err (Before k)
  pub after : (k : ℕ) → short ≡ Err (After k) → days < k → long ≡ Err (After (k - days))
  pub reached : (k : ℕ) → short ≡ Err (After k) → k ≤ days → Reached

module _ (t : Table) (rows more rules : List ℕ) (today : Date) where
  abbrev pub short : Calendar
  short = flat t rows

  abbrev pub long : Calendar
  long = flat t (rows ++ more)

  -- the same table with more rows, the same rules, the same today and the same buffers: every question that asks a year table
  pub record Steady : Type 0 where
    -- `bs_month_len`, `validate_bs_date`, `bs_to_ad`, `ad_to_bs`, `step_month`
    pub month_len_law : (y m : ℕ) → AnswerStays (month_len short y m) (month_len long y m) NoYear (λ n. Added short y)
    pub valid : (y m d : ℕ) → AnswerStays (valid_bs short y m d) (valid_bs long y m d) NoYear (λ u. Added short y)
    pub to_ad_law : (y m d : ℕ) → AnswerStays (to_ad short y m d) (to_ad long y m d) NoYear (λ x. Added short y)
    pub to_bs : (y m d : ℕ) → AnswerStays (from_ad short y m d) (from_ad long y m d) (outside short (day_number (date y m d)))
        (λ x. Added short x.year)
    pub step : (y m : ℕ) (s : ℤ) → AnswerStays (step_month short y m s) (step_month long y m s) OffTable (λ x. Added short x.year)
    -- `festivals_on`, `festivals_on_ad`: the answer and the buffer
    pub list : (y m d : ℕ) (out : List ℕ) → Stays (λ w. w.answer) (on_bs t rows rules y m d out) (on_bs t (rows ++ more) rules y m d out) NoYear
        (λ n. Added short y)
    pub list_ad : (y m d : ℕ) (out : List ℕ) → Stays (λ w. w.answer) (on_ad t rows rules y m d out) (on_ad t (rows ++ more) rules y m d out)
        (outside short (day_number (date y m d))) (λ n. AddedDay short long (day_number (date y m d)))
    -- `is_holiday`
    pub holiday : (y m d : ℕ) → AnswerStays (holiday_on t rows rules y m d) (holiday_on t (rows ++ more) rules y m d) NoYear (λ b. Added short y)
    -- `month_grid`: the answer and both buffers
    pub month : (y m : ℕ) (cells festivals : List ℕ) → Stays (λ w. w.answer) (month_shown t rows rules today y m cells festivals)
        (month_shown t (rows ++ more) rules today y m cells festivals) NoYear (λ n. Added short y)
    -- the distance that `ad_to_bs` and `festivals_on_ad` tell with 7: where it is reached the date is answered, and lies in an added year
    pub bs_outside : (y m d : ℕ) → OutsideStays (from_ad short y m d) (from_ad long y m d) (added_days short long)
        ((x : BsDate) × ((from_ad long y m d ≡ Ok x) × Added short x.year))
    pub list_outside : (y m d : ℕ) (out : List ℕ) → OutsideStays (on_ad t rows rules y m d out).answer (on_ad t (rows ++ more) rules y m d out).answer
        (added_days short long) (AddedDay short long (day_number (date y m d)))
