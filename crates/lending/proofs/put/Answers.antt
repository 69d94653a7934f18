-- One number is stored where there is room. Assumes nothing.
use native.Mathlib.Omega.{arith}
use Rattle.paper.proofs.Stores.{sets_past}
use mathlib.Core.List.{[], ◌∷◌}
use mathlib.Core.Path.{sym}
use Rattle.lending.proofs.put.Goals as goal

pub returns : goal.returns
returns c = let a = c.args in
    record { stored = sym (sets_past (a.x ∷ []) a.list.now a.at c.if-at-list.false); end = omega arith }
