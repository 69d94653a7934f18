use Prim.Native.Nat.{ℕ}
use mathlib.Core.Path.{◌≡◌}
use mathlib.Core.List.{List}
use Rattle.conversion.specs.declared.Table.{Table}
use Rattle.conversion.specs.Calendar.{to_ad}
use Rattle.conversion.specs.Flat.{flat}
use Rattle.kept.specs.Converting.{if_row, ask_to_ad}
use Rattle.panel.specs.Boundary.{numbers}
use Rattle.panel.proofs.Handing.{given_as}
use Rattle.panel.proofs.Arrays.{refuses, answers, of_table}
use Rattle.panel.proofs.kept_dates.panel_kept_bs_to_ad.Goals as goal

pub returns-then-is_short : goal.returns-then-is_short
returns-then-is_short c = refuses c.if-is_short.ensures c.number.ensures

pub returns : goal.returns
unfolding ask_to_ad
returns c =
    let a = c.args in
    let says : Table → List ℕ → Type 0 = λ t rows. c.to_ad.result ≡ if_row rows (to_ad (flat t rows) a.year a.month a.day) in
    answers c.if-is_short.ensures (λ σ m.
    given_as numbers _ (of_table says m c.table_of.ensures c.rows_of.ensures c.to_ad.ensures) c.give_date.ensures)
