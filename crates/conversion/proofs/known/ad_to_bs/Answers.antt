use Prim.Native.Nat.{◌+◌, ◌*◌}
use mathlib.Core.Path.{◌∙◌}
use native.Mathlib.Omega.{arith}
use Rattle.paper.proofs.Answers.{passed_on}
use Rattle.conversion.proofs.Accepted.{facts, frame_is, frame_wrong, year_found}
use Rattle.conversion.proofs.Ad.{no_such, on_day_law}
use Rattle.conversion.proofs.known.ad_to_bs.Goals as goal

pub returns-in_err-start : goal.returns-in_err-start
returns-in_err-start c g = absurd (frame_wrong _ _ _ c.in_err-start.ensures g)

pub returns-in_err-n : goal.returns-in_err-n
returns-in_err-n c g = let a = c.args in passed_on _ c.from_residual-in_err-n.ensures.1 (no_such _ _ a.year a.month a.day _ g c.in_err-n.ensures)

pub row_at-p-requires : goal.row_at-p-requires
row_at-p-requires c = (frame_is c.args.table c.args.rows.now _ c.in_ok-start.ensures).frame.few

pub place_in-requires : goal.place_in-requires
place_in-requires c =
    let p = rw c.saturating_sub.ensures at c.row_at-p.ensures in
    record {
      begins = frame_is _ _ _ c.in_ok-start.ensures;
      most = omega (arith, p.whole);
      short = λ l. omega (arith, p.within l, c.type_inv.rows (12 + 13 * c.row_at-p.result.index));
      found = λ g. year_found _ _ (facts _ _ g) _ _ _ p;
    }

pub returns : goal.returns
returns c g = let a = c.args in c.place_in.ensures g ∙ on_day_law _ _ a.year a.month a.day _ g c.in_ok-n.ensures
