-- `files::listing::names_in` meets its contract. Assumes nothing.
use Rattle.std.proofs.Common.{sym, ap, ◌∙◌, length-take-le}
use Rattle.files.specs.Texts.{names_of}
use Rattle.files.proofs.listing.names_in.Goals as goal

pub slice_bounds-check-end : goal.slice_bounds-check-end
slice_bounds-check-end c = let a = c.args in sym (length-take-le a.n a.text.now c.requires)

pub returns-in-Ok : goal.returns-in-Ok
returns-in-Ok c = ap (names_of c.args.n) (sym c.in-Ok.is ∙ c.check.ensures)

pub returns-in-Err : goal.returns-in-Err
returns-in-Err c = ap (names_of c.args.n) (sym c.in-Err.is ∙ c.check.ensures)
