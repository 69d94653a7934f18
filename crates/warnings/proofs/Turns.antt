-- The turns of the loop over the rules, over plain variables. Assumes nothing.
use Rattle.std.specs.Prelude.{None, Some}
use Prim.Native.Nat.{ℕ, ◌+◌, ◌-◌, ◌≤◌, ◌<◌}
use mathlib.Core.Path.{◌≡◌}
use mathlib.Core.Bool.{Bool, true, false}
use mathlib.Core.List.{List}
use Rattle.rules.specs.declared.Rule.{Rule}
use Rattle.rules.specs.Rules.{rule_at, rules_from}
use Rattle.rules.proofs.Walk.{left, left_none}
use Rattle.warnings.specs.declared.search.Like.{Like}
use Rattle.warnings.specs.Warnings.{stands, first_like}

module _ (xs : List ℕ) (n : ℕ) (how : Like) (r : Rule) where
  pub like_over : (i : ℕ) → n ≤ i → None ≡ first_like how r (rules_from xs i (n - i)) i
  unfolding first_like
  like_over i h = rw (left_none xs i n h)

  module _ (i : ℕ) (h : i < n) {s : Rule} (es : s ≡ rule_at xs i) {b : Bool} (eb : b ≡ stands how r s) where
    pub like-here : b ≡ true → Some i ≡ first_like how r (rules_from xs i (n - i)) i
    unfolding first_like
    like-here e = rw (left xs i n h s es, ← eb, e)

    pub like-turn : b ≡ false → first_like how r (rules_from xs (i + 1) (n - (i + 1))) (i + 1) ≡ first_like how r (rules_from xs i (n - i)) i
    unfolding first_like
    like-turn e = rw (left xs i n h s es, ← eb, e)
