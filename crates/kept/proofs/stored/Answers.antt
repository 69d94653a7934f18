-- `kept::stored` meets its contract. Assumes nothing.
use Prim.Native.Nat.{ℕ}
use mathlib.Core.Path.{sym, ap, ◌∙◌}
use mathlib.Core.List.{[], ◌∷◌}
use native.Mathlib.Omega.{arith}
use Rattle.kept.specs.State.{year_numbers}
use Rattle.kept.proofs.Stores.{years_none, years_one, years_two}
use Rattle.kept.proofs.stored.Goals as goal

pub returns-in-0 : goal.returns-in-0
returns-in-0 c = sym (ap year_numbers (years_none c.args.state.store c.in-0.is))

pub returns-in-1 : goal.returns-in-1
returns-in-1 c = sym (ap year_numbers (years_one c.args.state.store c.in-1.is))

pub returns-in_default : goal.returns-in_default
returns-in_default c =
    let s = c.args.state.store in
    ap (λ (n : ℕ). n ∷ s.year ∷ []) c.year_before.ensures ∙ sym (ap year_numbers (years_two s (λ e. omega arith) (λ e. omega arith)))
