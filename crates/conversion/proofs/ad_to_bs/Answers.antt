-- `conversion::ad_to_bs` meets its contract. Assumes nothing.
use Prim.Native.Nat.{◌-◌}
use mathlib.Core.Path.{◌≡◌, sym, ◌∙◌}
use Rattle.paper.specs.declared.Refusal.TheVariants.{BadTable}
use Rattle.paper.proofs.Answers.{passed_on, given_off, given_refused}
use Rattle.conversion.specs.Calendar.{from_ad}
use Rattle.conversion.proofs.Accepted.{frame_is, frame_refused, pass_is, placed_pass}
use Rattle.conversion.proofs.Ad.{no_such, on_day_law}
use Rattle.conversion.proofs.ad_to_bs.Goals as goal

pub returns-in_default : goal.returns-in_default
unfolding from_ad
returns-in_default c = sym (given_off _ BadTable _ (frame_refused _ _ _ c.in_default.ensures).0)

pub pass_table-requires : goal.pass_table-requires
pass_table-requires c = frame_is _ _ _ c.in-Ok.ensures

pub returns-in_default-pass_table : goal.returns-in_default-pass_table
unfolding from_ad
returns-in_default-pass_table c = sym (given_off _ BadTable _ (given_refused _ _ _ _ c.in_default-pass_table.ensures).0)

pub returns-in_err-n : goal.returns-in_err-n
returns-in_err-n c =
    let a = c.args in
    passed_on _ c.from_residual.ensures.1 (no_such _ _ a.year a.month a.day _ (pass_is _ _ _ _ _ c.in-Ok-pass_table.ensures).0 c.in_err-n.ensures)

pub overflow_sub-offset : goal.overflow_sub-offset
overflow_sub-offset c = (pass_is _ _ _ _ _ c.in-Ok-pass_table.ensures).1.1.day_to

pub place_in-requires : goal.place_in-requires
place_in-requires c =
    let off : c.saturating_sub-offset.result ≡ c.in_ok-n.n - c.in-Ok.start = rw c.in_ok-n.was at (rw c.unwrap_or.ensures at c.saturating_sub-offset.ensures) in
    placed_pass _ _ _ _ _ _ _ (frame_is _ _ _ c.in-Ok.ensures) c.year_count.ensures off c.in-Ok-pass_table.ensures

pub returns : goal.returns
returns c =
    let a = c.args in
    let good = (pass_is _ _ _ _ _ c.in-Ok-pass_table.ensures).0 in
    c.place_in.ensures good ∙ on_day_law _ _ a.year a.month a.day _ good c.in_ok-n.ensures
