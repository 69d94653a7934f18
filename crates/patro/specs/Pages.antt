-- The page that is asked for, and the page in a lent buffer. Assumes nothing.
use Rattle.std.specs.Prelude.{ℕ, ◌/◌, ◌≡◌, cond, ◌&&◌, List, leb, length, replicate, Err, Ok}
use Rattle.paper.specs.Answers.{Answer, given, then}
use Rattle.paper.specs.declared.Refusal.TheVariants.{NoDay, NoRoom}
use Rattle.gregorian.specs.declared.Date.{Date}
use Rattle.conversion.specs.declared.Table.{Table}
use Rattle.conversion.specs.Calendar.{from_ad}
use Rattle.conversion.specs.Flat.{flat}
use Rattle.grid.specs.declared.Month.{Month}
use Rattle.grid.specs.Month.{Shown, over}
use Rattle.grid.specs.Kathmandu.{month_shown}
use Rattle.wall.specs.declared.Page.{Page}
use Rattle.wall.specs.Places.{place_from}
use Rattle.wall.specs.Cells.{num}
use Rattle.wall.specs.Pages.{month_page, day_page}
use Rattle.commands.specs.declared.words.Asked.{Asked}
use Rattle.commands.specs.declared.words.Asked.TheVariants as A
use Rattle.patro.specs.declared.pages.Part.{Part}
use Rattle.patro.specs.declared.pages.Part.TheVariants as P

-- ---- a page

-- the BS day of cell i
abbrev pub cell_day : List ℕ → ℕ → ℕ
cell_day cells i = num cells i 0

-- the first cell of a BS day in a month of six weeks at most; 42 where there is none
abbrev pub cell_of : ℕ → List ℕ → ℕ
cell_of d cells = place_from (cell_day cells) d 0 42

-- what the page of a month says beside its cells
abbrev pub titled : ℕ → ℕ → Month → Page
titled y m x = record { year = y; month = m; first = x.first; last = x.last; weeks = x.cells / 7 }

-- the whole month, or one of its days: refusal 6 where the day is 0 or past the month's end
unfoldable pub part_page : List ℕ → ℕ → ℕ → Part → Month → List ℕ → List ℕ → Answer (List ℕ)
part_page names y m P.Whole x cells festivals = Ok (month_page (titled y m x) names cells festivals)
part_page names y m (P.Day d) x cells festivals =
    given (leb 1 d && leb d x.days) NoDay (Ok (day_page y m (cell_of d cells) names cells festivals))

-- the month as the engine shows it in buffers of zeros for six weeks and for every list of a month: refusals 1, 2, 3 (today), 4, 5, 9
abbrev pub month_in : Table → List ℕ → List ℕ → Date → ℕ → ℕ → Shown
month_in t rows rules today y m = month_shown t rows rules today y m (replicate 504 0) (replicate 24576 0)

module _ (t : Table) (rows rules names : List ℕ) (today : Date) where
  -- a part of that month
  unfoldable pub page_bs : ℕ → ℕ → Part → Answer (List ℕ)
  page_bs y m part =
      let shown = month_in t rows rules today y m in
      then shown.answer (λ x. part_page names y m part x shown.cells shown.festivals)

  -- a BS month, a BS date, a Gregorian date by its BS date (refusals 1, 3, 7 come first)
  unfoldable pub page_asked : Asked → Answer (List ℕ)
  page_asked (A.Month y m) = page_bs y m P.Whole
  page_asked (A.Day y m d) = page_bs y m (P.Day d)
  page_asked (A.Date x) = then (from_ad (flat t rows) x.year x.month x.day) (λ b. page_bs b.year b.month (P.Day b.day))

-- ---- a page in a lent buffer

-- what is answered, and the lent buffer as it then stands
pub record Laying : Type 0 where
  pub answer : Answer ℕ
  pub out : List ℕ

-- a page of at most 262,143 bytes that is no longer than the buffer stands at its front: refusal 9. A refusal changes nothing
unfoldable pub laid : Answer (List ℕ) → List ℕ → Laying
laid (Ok text) out =
    cond (leb (length text) 262143 && leb (length text) (length out))
    (record { answer = Ok (length text); out = over text out })
    (record { answer = Err NoRoom; out = out })
laid (Err k) out = record { answer = Err k; out = out }

-- an answer and a buffer as they are to be
pub record Lays (w : Laying) (after : List ℕ) (r : Answer ℕ) : Type 0 where
  pub says : r ≡ w.answer
  pub stored : after ≡ w.out
