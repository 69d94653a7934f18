-- The lines on a table that grows, put together. Assumes nothing.
use Rattle.std.specs.Prelude.{None, Option, Some}
use Prim.Native.Nat.{ℕ, ◌+◌, ◌-◌, ◌≤◌, ◌<◌}
use mathlib.Core.Path.{◌≡◌, sym, ap, ◌∙◌}
use mathlib.Core.List.{List, [], ◌∷◌}
use borrow.Author.Tests.{le-leb, lt-leb}
use Rattle.text.specs.Quoted.{bytes}
use Rattle.output.specs.Gathered.{Gathered, gathered}
use Rattle.output.specs.declared.Out.{Out}
use Rattle.conversion.specs.Calendar.{Calendar}
use Rattle.rules.specs.declared.Rule.{Rule}
use Rattle.festivals.specs.Months.{year_days}
use Rattle.output.specs.Pieces.{Text, Puts}
use Rattle.doubtful.specs.declared.page.Page.{Page}
use Rattle.doubtful.specs.Tallies.{tally_of, page_with, count_pieces}
use Rattle.doubtful.specs.Years.{sheet, years_page}
use Rattle.growth.specs.Growth.{last_year, line_pieces, between_pieces, years_pieces, tables_pieces, gained_pieces, counted, found_page, added_page, grown_page}

-- ---- the years from one to another

module _ (c : Calendar) (label : Text) (year last : ℕ) (q : Option (ℕ × ℕ)) (e : q ≡ year_days c year) where
  from_first : {d : Option (ℕ × ℕ)} → q ≡ d → between_pieces label year last d (year_days c last) ≡ years_pieces c label year last
  unfolding years_pieces
  from_first g = ap (λ (d : Option (ℕ × ℕ)). between_pieces label year last d (year_days c last)) (sym g ∙ e)

  pub no_first : q ≡ None → [] ≡ years_pieces c label year last
  no_first g = from_first g

  module _ {a b : ℕ} (g : q ≡ Some (a, b)) (r : Option (ℕ × ℕ)) (f : r ≡ year_days c last) where
    to_last : {d : Option (ℕ × ℕ)} → r ≡ d → between_pieces label year last (Some (a, b)) d ≡ years_pieces c label year last
    to_last h = ap (between_pieces label year last (Some (a, b))) (sym h ∙ f) ∙ from_first g

    pub no_last : r ≡ None → [] ≡ years_pieces c label year last
    no_last h = to_last h

    pub span-is : {x y : ℕ} → r ≡ Some (x, y) → line_pieces label year last a y ≡ years_pieces c label year last
    span-is h = to_last h

-- ---- the page

module _ (new : Calendar) (rules : List Rule) (names : List ℕ) (year last : ℕ) (l : List ℕ) (o : Out) where
  pub found_is : {w p : Page} {m n : List ℕ} {r : Out} → w ≡ page_with o → sheet m p ≡ years_page new rules names year (last + 1 - year) (sheet l w)
      → Puts m p.out (count_pieces (tally_of p)) n r → gathered n r ≡ found_page new rules names year last (gathered l o)
  unfolding found_page
  found_is e f w = w.same ∙ ap counted f ∙ ap (λ (x : Page). counted (years_page new rules names year (last + 1 - year) (sheet l x))) e

  pub added_none : {n : List ℕ} {r : Out} → last ≤ year → Puts l o (bytes "Added: nothing\n" ∷ []) n r → gathered n r ≡ added_page new rules names year last (gathered l o)
  unfolding added_page
  added_none h w = rw (le-leb last year h) w.same

  module _ {m : List ℕ} {p : Out} {g : Gathered} where
    pub added-some : year < last → Puts l o (gained_pieces new (year + 1) last) m p → g ≡ found_page new rules names (year + 1) last (gathered m p)
        → g ≡ added_page new rules names year last (gathered l o)
    unfolding added_page
    added-some h w e = rw (lt-leb last year h) (e ∙ ap (found_page new rules names (year + 1) last) w.same)

    pub page_is : (old : Calendar) → year ≡ last_year old → last ≡ last_year new → Puts l o (tables_pieces old new) m p → g ≡ added_page new rules names year last (gathered m p)
        → g ≡ grown_page new rules names old (gathered l o)
    unfolding grown_page
    page_is old e f w q = rw (← e, ← f, ← w.same) q
