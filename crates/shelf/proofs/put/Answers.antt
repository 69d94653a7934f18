-- `shelf::put` meets its contract. Assumes nothing.
use mathlib.Core.Path.{sym, ◌∙◌}
use mathlib.Core.Logic.{⊎_elim}
use Rattle.shelf.proofs.Sizes.{no_room, long_rows, long_rules, fitting}
use Rattle.shelf.proofs.put.Goals as goal

pub returns-then-state-le65535-2 : goal.returns-then-state-le65535-2
returns-then-state-le65535-2 c =
    let a = c.args in
    c.put_all.ensures ∙ sym (fitting a.state a.out.now c.if-out-ge4488.true c.if-state-le65535.true c.if-state-le65535-2.true)

pub returns-else-out-ge4488 : goal.returns-else-out-ge4488
returns-else-out-ge4488 c =
    let k = c.args.state in
    let a = c.args.out.now in
    sym (⊎_elim (λ b. long_rules k a b.0 b.1 b.2) (⊎_elim (λ b. long_rows k a b.0 b.1) (no_room k a)) c.else-out-ge4488.either)
