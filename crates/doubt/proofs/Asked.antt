-- The page on the years that were asked, put together. Assumes nothing.
use Prim.Native.Nat.{ℕ, ◌+◌, ◌-◌}
use mathlib.Core.Path.{◌≡◌, ap, ◌∙◌}
use mathlib.Core.List.{List}
use Rattle.output.specs.Gathered.{gathered}
use Rattle.output.specs.declared.Out.{Out}
use Rattle.conversion.specs.Calendar.{Calendar}
use Rattle.rules.specs.declared.Rule.{Rule}
use Rattle.output.specs.Pieces.{Puts}
use Rattle.output.proofs.Pieces.{then}
use Rattle.doubtful.specs.declared.page.Page.{Page}
use Rattle.doubtful.specs.Tallies.{tally_of, first_page, count_pieces}
use Rattle.doubtful.specs.Years.{sheet, years_page}
use Rattle.doubt.specs.Range.{range_pieces, summed, asked_page}

module _ (c : Calendar) (rules : List Rule) (names : List ℕ) (first last : ℕ) (l : List ℕ) where
  pub page_is : {w p : Page} {m n k : List ℕ} {q r : Out} → w ≡ first_page → sheet m p ≡ years_page c rules names first (last + 1 - first) (sheet l w)
      → Puts m p.out (range_pieces first last) n q → Puts n q (count_pieces (tally_of p)) k r
      → gathered k r ≡ asked_page c rules names first last (sheet l first_page)
  unfolding asked_page
  page_is e f a b =
      (then a b).same ∙ ap (summed first last) f ∙ ap (λ (x : Page). summed first last (years_page c rules names first (last + 1 - first) (sheet l x))) e
