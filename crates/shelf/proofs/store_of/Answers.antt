-- `shelf::store_of` meets its contract. Assumes nothing.
use Rattle.shelf.proofs.store_of.Goals as goal

pub returns : goal.returns
returns c = λ i.
    record {
      count = c.number_at.ensures i;
      year = c.number_at-2.ensures i;
      years = record { before = c.days_at.ensures i; this = c.days_at-2.ensures i };
    }
