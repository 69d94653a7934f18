-- A page of doubtful new moons and what it counts. Assumes nothing.
use Rattle.std.specs.Prelude.{ℕ, ◌+◌, Bool, true, false, cond, not, List, [], ◌∷◌, ◌++◌, ltb}
use Rattle.text.specs.Digits.{digits}
use Rattle.text.specs.Quoted.{bytes}
use Rattle.output.specs.declared.Out.{Out}
use Rattle.output.specs.Pieces.{Text}
use Rattle.doubtful.specs.declared.page.Page.{Page}

-- ---- a page

-- so much is written, and nothing is counted
abbrev pub page_with : Out → Page
page_with o = record { out = o; headed = false; near = 0; first = 0; second = 0; empty = 0 }

-- nothing is written
abbrev pub first_page : Page
first_page = page_with (record { at = 0; begun = false; failed = false })

-- ---- counts

-- whether the year has its heading; the new moons near a boundary, of these those on a month's first day; those that open nothing; and the lunar
-- months that none opens
pub record Tally : Type 0 where
  pub headed : Bool
  pub near : ℕ
  pub first : ℕ
  pub second : ℕ
  pub empty : ℕ

-- nothing is counted, and no year has its heading
abbrev pub no_tally : Tally
no_tally = record { headed = false; near = 0; first = 0; second = 0; empty = 0 }

-- of a page
abbrev pub tally_of : Page → Tally
tally_of p = record { headed = p.headed; near = p.near; first = p.first; second = p.second; empty = p.empty }

-- the same counts, and whether there is a heading
abbrev pub with_heading : Bool → Tally → Tally
with_heading headed t = record { headed = headed; near = t.near; first = t.first; second = t.second; empty = t.empty }

-- one more, up to four thousand million
unfoldable pub one_more : ℕ → ℕ
one_more n = cond (ltb n 4000000000) (n + 1) n

-- one more where it counts
abbrev pub more_if : Bool → ℕ → ℕ
more_if counts n = cond counts (one_more n) n

-- a new moon more: whether it is near a boundary, on a month's first day, and opens a lunar month
unfoldable pub doubted : Bool → Bool → Bool → Tally → Tally
doubted near first opens t =
    record {
      headed = true;
      near = more_if near t.near;
      first = more_if first t.first;
      second = more_if (not opens) t.second;
      empty = t.empty;
    }

-- a lunar month more that nothing opens
unfoldable pub unopened : Tally → Tally
unopened t = record { headed = true; near = t.near; first = t.first; second = t.second; empty = one_more t.empty }

-- ---- its heading and its counts, as they are printed

-- the heading of a year, once
unfoldable pub heading_pieces : Bool → ℕ → List Text
heading_pieces headed y = cond headed [] (bytes "BS " ∷ digits y ∷ bytes "\n" ∷ [])

-- of new moons near a boundary
unfoldable pub near_pieces : ℕ → ℕ → List Text
near_pieces near first = digits near ∷ bytes " doubtful new moons, on a month's first day " ∷ digits first ∷ bytes "\n" ∷ []

-- of a page, two lines
unfoldable pub count_pieces : Tally → List Text
count_pieces t =
    near_pieces t.near t.first
    ++ (bytes "new moons that open nothing "
    ∷ digits t.second
    ∷ bytes "; lunar months that nothing opens "
    ∷ digits t.empty
    ∷ bytes "\n"
    ∷ [])
