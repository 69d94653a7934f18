-- `rules::lists::keep_pair` meets its contract. Assumes nothing.
use borrow.Author.Rules.{rules}
use mathlib.Core.Path.{sym, ◌∙◌}
use Rattle.rules.proofs.Stores.{store_off, store_same, store_new}
use Rattle.rules.proofs.lists.keep_pair.Goals as goal

pub returns-then-not-on : goal.returns-then-not-on
returns-then-not-on c = record { result_after = store_off _ _ _ _ c.if-not-on.true; n_bound = search rules }

pub returns-then-is_repeat : goal.returns-then-is_repeat
returns-then-is_repeat c =
    record { result_after = store_same _ _ _ _ c.if-not-on.false (sym c.is_repeat.ensures ∙ c.if-is_repeat.true); n_bound = search rules }

pub returns : goal.returns
returns c =
    let a = c.args in
    record { result_after = rw (c.set_at-2.ensures, c.set_at.ensures) (store_new a.on a.buf.now a.s a.name a.holiday c.if-not-on.false (sym c.is_repeat.ensures ∙ c.if-is_repeat.false)); n_bound = search rules }
