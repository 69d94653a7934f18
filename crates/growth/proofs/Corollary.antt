-- What the page says of its two tables: `steady` holds of them. Assumes nothing.
use Prim.Native.Nat.{ℕ}
use mathlib.Core.Path.{◌≡◌, sym, ap, ◌∙◌}
use mathlib.Core.Bool.{true, ◌&&◌}
use mathlib.Core.List.{List, ◌++◌}
use lib.Dec.{eqb}
use lib.ListN.{length, drop}
use borrow.Author.Tests.{eqb-true}
use Rattle.paper.proofs.Tests.{and_left, and_right}
use Rattle.gregorian.specs.declared.Date.{Date}
use Rattle.conversion.specs.declared.Table.{Table}
use Rattle.conversion.specs.Flat.{accepted}
use Rattle.steady.specs.Steady.{Steady}
use Rattle.steady.proofs.Steady.{steady}
use Rattle.growth.specs.Growth.{same_first, Grown}

-- tables that begin with the same year and day are one
pub first_is : (a b : Table) → same_first a b ≡ true → a ≡ b
first_is a b e =
    let x = eqb a.first_year b.first_year in
    let y = eqb a.year b.year in
    let z = eqb a.month b.month in
    let f = and_left ((x && y) && z) _ e in
    let g = and_left (x && y) z f in
    let p : a.first_year ≡ b.first_year = eqb-true _ _ (and_left x y g) in
    let q : a.year ≡ b.year = eqb-true _ _ (and_right x y g) in
    let r : a.month ≡ b.month = eqb-true _ _ (and_right (x && y) z f) in
    let s : a.day ≡ b.day = eqb-true _ _ (and_right ((x && y) && z) _ e) in
    ap (λ (v : ℕ). record { first_year = v; year = a.year; month = a.month; day = a.day }) p
    ∙ ap (λ (v : ℕ). record { first_year = b.first_year; year = v; month = a.month; day = a.day }) q
    ∙ ap (λ (v : ℕ). record { first_year = b.first_year; year = b.year; month = v; day = a.day }) r
    ∙ ap (λ (v : ℕ). record { first_year = b.first_year; year = b.year; month = b.month; day = v }) s

-- DEMAND 3 for the tables of a page, under all rules and on every day: NEW is OLD's table with the rows `more` after OLD's, and no answer changes
module _ (a : Table) (old : List ℕ) (b : Table) (new rules : List ℕ) (today : Date) where
  abbrev pub more : List ℕ
  more = drop (length old) new

  pub grown_steady : accepted a old ≡ true → accepted b new ≡ true → Grown a old b new → ((b ≡ a) × (new ≡ old ++ more)) × Steady a old more rules today
  grown_steady f g w =
      let e = first_is a b w.first in
      ((sym e, w.rows), steady a old more rules today f (sym (ap (accepted a) w.rows) ∙ ap (λ (t : Table). accepted t new) e ∙ g))
