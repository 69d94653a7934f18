use Prim.Native.Nat.{ℕ}
use mathlib.Core.Path.{◌≡◌}
use mathlib.Core.List.{List}
use Rattle.conversion.specs.declared.Table.{Table}
use Rattle.conversion.specs.Calendar.{from_ad}
use Rattle.conversion.specs.Flat.{flat}
use Rattle.kept.specs.Converting.{if_row, ask_from_ad}
use Rattle.panel.specs.Boundary.{days_in, bs_numbers}
use Rattle.panel.proofs.Handing.{told_as}
use Rattle.panel.proofs.Arrays.{refuses, answers, of_table}
use Rattle.panel.proofs.kept_dates.panel_kept_ad_to_bs.Goals as goal

pub returns-then-is_short : goal.returns-then-is_short
returns-then-is_short c = refuses c.if-is_short.ensures c.number.ensures

pub returns : goal.returns
unfolding ask_from_ad
returns c =
    let a = c.args in
    let says : Table → List ℕ → Type 0 = λ t rows. c.from_ad.result ≡ if_row rows (from_ad (flat t rows) a.year a.month a.day) in
    answers c.if-is_short.ensures (λ σ m.
    told_as days_in bs_numbers _ (of_table says m c.table_of.ensures c.rows_of.ensures c.from_ad.ensures) c.give_bs.ensures)
