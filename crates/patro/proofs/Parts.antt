-- The page of a part of a month: its refusals, and what the engine's month makes of it. Assumes nothing.
use Rattle.std.specs.Prelude.{Err, Ok}
use Rattle.paper.specs.Answers.{Answer}
use Prim.Native.Nat.{ℕ, ◌≤◌, ◌<◌}
use mathlib.Core.Path.{◌≡◌, refl, sym, ap, ◌∙◌}
use mathlib.Core.Bool.{true, and-false}
use mathlib.Core.List.{List}
use native.Mathlib.Omega.{arith}
use borrow.Author.Tests.{le-leb, lt-leb}
use lib.Dec.{leb}
use lib.ListN.{replicate}
use Rattle.paper.specs.declared.Refusal.{Refusal}
use Rattle.paper.specs.declared.Refusal.TheVariants.{NoDay}
use Rattle.paper.proofs.Answers.{answered_same}
use Rattle.gregorian.specs.declared.Date.{Date}
use Rattle.conversion.specs.declared.Table.{Table}
use Rattle.grid.specs.declared.Month.{Month}
use Rattle.grid.specs.Month.{shown}
use Rattle.grid.specs.Kathmandu.{month_shown}
use Rattle.grid.proofs.Asked.{told, in_range_law}
use Rattle.grid.proofs.Theorems.{month_weeks, month_written}
use Rattle.wall.specs.Pages.{day_page}
use Rattle.patro.specs.declared.pages.Part.{Part}
use Rattle.patro.specs.declared.pages.Part.TheVariants as P
use Rattle.patro.specs.Pages.{cell_of, part_page, month_in, page_bs}

module _ (names : List ℕ) (y m d : ℕ) (x : Month) (cells festivals : List ℕ) where
  pub day_zero : d ≡ 0 → part_page names y m (P.Day d) x cells festivals ≡ Err NoDay
  unfolding part_page
  day_zero e = rw e

  pub day_past : x.days < d → part_page names y m (P.Day d) x cells festivals ≡ Err NoDay
  unfolding part_page
  day_past h = rw (lt-leb d x.days h, and-false (leb 1 d))

  pub day_in : (d ≡ 0 → ⊥) → d ≤ x.days → part_page names y m (P.Day d) x cells festivals ≡ Ok (day_page y m (cell_of d cells) names cells festivals)
  unfolding part_page
  day_in n h = let k : leb 1 d ≡ true = le-leb 1 d (omega arith) in rw (k, le-leb d x.days h)

-- ---- a month that the engine answered or refused

-- six weeks at most, whatever the buffers are
weeks_few : (t : Table) (rows rules : List ℕ) (today : Date) (y m : ℕ) (cells festivals : List ℕ) (x : Month) → (month_shown t rows rules today y m cells festivals).answer ≡ Ok x → x.cells ≤ 42
unfolding shown
weeks_few t rows rules today y m cells festivals x h =
    let g = month_written _ _ _ _ today y m cells festivals x h in
    let k = told _ _ _ _ today y m _ _ g.0 g.1.0 in
    let few = in_range_law t rows k.month.good y m _ k.month refl in
    let n = (month_weeks _ _ _ _ today y m _ _ g.0 g.1.0).count in
    let same = ap (λ (z : Month). z.cells) (answered_same (rw g.1.0 at h)) in
    omega arith

module _ (t : Table) (rows rules : List ℕ) (today : Date) (y m : ℕ) {g : Answer Month} (q : g ≡ (month_in t rows rules today y m).answer) where
  pub few_cells : {x : Month} → g ≡ Ok x → x.cells ≤ 42
  few_cells {x} e = weeks_few t rows rules today y m (replicate 504 0) (replicate 24576 0) x (sym (sym e ∙ q))

  pub bs_page : (names : List ℕ) (part : Part) {x : Month} → g ≡ Ok x
      → page_bs t rows rules names today y m part ≡ part_page names y m part x (month_in t rows rules today y m).cells (month_in t rows rules today y m).festivals
  unfolding page_bs
  bs_page names part {x} e = rw (sym (sym e ∙ q))

  pub bs_refused : (names : List ℕ) (part : Part) {why : Refusal} → g ≡ Err why → page_bs t rows rules names today y m part ≡ Err why
  unfolding page_bs
  bs_refused names part {why} e = rw (sym (sym e ∙ q))
