-- The page of a BS year, and what words want. Assumes nothing.
use Rattle.std.specs.Prelude.{ℕ, zero, suc, ◌+◌, cond, List, [], ◌++◌, eqb, None, Ok, Option, Some}
use Rattle.paper.specs.Answers.{Answer, then}
use Rattle.gregorian.specs.declared.Date.{Date}
use Rattle.conversion.specs.declared.Table.{Table}
use Rattle.wall.specs.Pages.{feed}
use Rattle.patro.specs.declared.pages.Part.TheVariants.{Whole}
use Rattle.patro.specs.declared.wanted.Wanted.{Wanted}
use Rattle.patro.specs.declared.wanted.Wanted.TheVariants as W
use Rattle.patro.specs.Pages.{page_bs, page_asked}
use Rattle.commands.specs.declared.words.Asked.{Asked}

-- ---- a year

-- an empty line before each month but the first
unfoldable pub gap : ℕ → List ℕ
gap m = cond (eqb m 1) [] feed

-- a text, and what is answered behind it
abbrev pub behind : List ℕ → Answer (List ℕ) → Answer (List ℕ)
behind text a = then a (λ rest. Ok (text ++ rest))

module _ (t : Table) (rows rules names : List ℕ) (today : Date) (y : ℕ) where
  -- the page of a month with what stands before it
  unfoldable pub spaced : ℕ → Answer (List ℕ)
  spaced m = behind (gap m) (page_bs t rows rules names today y m Whole)

  -- the pages of so many months from month m on, or the refusal of the first that is refused
  unfoldable pub months_from : ℕ → ℕ → Answer (List ℕ)
  months_from m zero = Ok []
  months_from m (suc k) = then (spaced m) (λ page. behind page (months_from (m + 1) k))

  -- the year: its twelve months
  abbrev pub year_page : Answer (List ℕ)
  year_page = months_from 1 12

-- ---- what is wanted

-- a page of a month or of a day, or that of a year
abbrev pub page_wanted : Table → List ℕ → List ℕ → List ℕ → Date → Wanted → Answer (List ℕ)
page_wanted t rows rules names today (W.Page asked) = page_asked t rows rules names today asked
page_wanted t rows rules names today (W.Year y) = year_page t rows rules names today y

-- a word that is a year wants its page, other words what they ask
abbrev pub wished : Option ℕ → Option Asked → Option Wanted
wished (Some y) w = Some (W.Year y)
wished None (Some asked) = Some (W.Page asked)
wished None None = None
