-- `shelf::kept_of` meets its contract. Assumes nothing.
use Prim.Native.Nat.{ℕ}
use mathlib.Core.Path.{◌∙◌}
use native.Mathlib.Omega.{arith}
use lib.ListN.{drop, length-replicate}
use Rattle.shelf.specs.Inner.{kept_of}
use Rattle.shelf.proofs.Sizes.{part_fits, part_read}
use Rattle.shelf.proofs.kept_of.Goals as goal

pub put_at-requires : goal.put_at-requires
put_at-requires c =
    let a = c.args.numbers.now in
    omega (arith, length-replicate {A = ℕ} 1664 0, part_fits 1664 (drop 8 a) _ c.part.ensures)

pub put_at-requires-2 : goal.put_at-requires-2
put_at-requires-2 c =
    let a = c.args.numbers.now in
    omega (arith, length-replicate {A = ℕ} 2560 0, part_fits 2560 (drop 1672 a) _ c.part-2.ensures)

pub returns : goal.returns
unfolding kept_of
returns c =
    let a = c.args.numbers.now in
    let rules = part_read 2560 (drop 1672 a) _ c.part-2.ensures _ c.put_at-2.ensures in
    let rows = part_read 1664 (drop 8 a) _ c.part.ensures _ c.put_at.ensures in
    let row_len = c.from.ensures ∙ c.number_at.ensures in
    let rule_len = c.from-2.ensures ∙ c.number_at-2.ensures in
    λ i.
    record {
      table = c.table_of.ensures i;
      rows = rows i;
      row_len = row_len i;
      rules = rules i;
      rule_len = rule_len i;
      store = c.store_of.ensures i;
    }
