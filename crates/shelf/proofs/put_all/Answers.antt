-- `shelf::put_all` meets its contract: the state's arrays have their lengths. Assumes nothing.
use Rattle.shelf.proofs.Sizes.{Sized, written}
use Rattle.shelf.proofs.put_all.Goals as goal

pub returns : goal.returns
returns c =
    let o = c.well_formed.0.1.1 in
    let y = o.1.1.1.1.1.0.1.1.1.1.0.1.1 in
    let sizes : Sized c.args.state = record {
      rows = o.1.0.1.0.1;
      rules = o.1.1.1.0.1.0.1;
      before = y.0.1.1.0.1.0.1;
      this = y.1.0.1.1.0.1.0.1;
    } in
    written c.args.state sizes c.args.out.now _ _ _ _ _ _ c.requires.in_bounds c.head_of.ensures c.put_at.ensures c.put_at-2.ensures c.put_at-3.ensures c.put_days.ensures c.put_days-2.ensures
