-- `rules::lists::put_before` meets its contract. Assumes nothing.
use borrow.Author.Rules.{rules}
use borrow.Author.Tests.{lt-leb, le-leb}
use Rattle.rules.specs.Inner.{store_pairs}
use Rattle.rules.proofs.lists.put_before.Goals as goal

pub returns-then-day-gt-LAST_ASKED : goal.returns-then-day-gt-LAST_ASKED
unfolding store_pairs
returns-then-day-gt-LAST_ASKED c = record { result_after = rw (lt-leb _ 2 c.if-day-gt-LAST_ASKED.true); n_bound = search rules }

pub returns : goal.returns
returns c =
    let p = c.put_resolved.ensures in
    record { result_after = rw (le-leb _ 2 c.if-day-gt-LAST_ASKED.false) p.result_after; n_bound = p.n_bound }
