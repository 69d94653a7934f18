-- The turns of the loops over the rules, over plain variables. Assumes nothing.
use Rattle.std.proofs.Common.{◌≡◌, ℕ, ◌+◌, ◌-◌, ◌<◌, ◌≤◌, List, Some, None, eq-eqb, ne_eqb}
use Rattle.rules.specs.declared.Rule.{Rule}
use Rattle.rules.specs.Rules.{rule_at, rules_from}
use Rattle.rules.proofs.Walk.{left, left_none}
use Rattle.faults.specs.declared.first.Field.{Field}
use Rattle.faults.specs.declared.first.Fault.TheVariants as fault
use Rattle.faults.specs.Faults.{first_field, first_from, over_from}

-- ---- a loop over the rules

module _ (xs : List ℕ) (n : ℕ) where
  pub first_over : (i : ℕ) → n ≤ i → None ≡ first_from (rules_from xs i (n - i)) i
  unfolding first_from
  first_over i h = rw (left_none xs i n h)

  pub over_over : (kind k i : ℕ) → n ≤ i → None ≡ over_from kind k (rules_from xs i (n - i)) i
  unfolding over_from
  over_over kind k i h = rw (left_none xs i n h)

  module _ (i : ℕ) (h : i < n) {r : Rule} (er : r ≡ rule_at xs i) where
    pub first-here : {f : Field} → first_field r ≡ Some f → Some (fault.At i f r) ≡ first_from (rules_from xs i (n - i)) i
    unfolding first_from
    first-here e = rw (left xs i n h r er, e)

    pub first_turn : first_field r ≡ None → first_from (rules_from xs (i + 1) (n - (i + 1))) (i + 1) ≡ first_from (rules_from xs i (n - i)) i
    unfolding first_from
    first_turn e = rw (left xs i n h r er, e)

    module _ (kind k : ℕ) where
      pub over_skip : (r.kind ≡ kind → ⊥) → over_from kind k (rules_from xs (i + 1) (n - (i + 1))) (i + 1) ≡ over_from kind k (rules_from xs i (n - i)) i
      unfolding over_from
      over_skip e = rw (left xs i n h r er, ne_eqb r.kind kind e)

      pub over-here : r.kind ≡ kind → k ≡ 0 → Some (fault.Many i kind) ≡ over_from kind k (rules_from xs i (n - i)) i
      unfolding over_from
      over-here e z = rw (left xs i n h r er, eq-eqb r.kind kind e, eq-eqb k 0 z)

      pub over-turn : r.kind ≡ kind → (k ≡ 0 → ⊥)
          → over_from kind (k - 1) (rules_from xs (i + 1) (n - (i + 1))) (i + 1) ≡ over_from kind k (rules_from xs i (n - i)) i
      unfolding over_from
      over-turn e z = rw (left xs i n h r er, eq-eqb r.kind kind e, ne_eqb k 0 z)
