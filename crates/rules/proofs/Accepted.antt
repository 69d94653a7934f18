-- What a good list of rules says: of each rule, and of how many there are. Assumes nothing.
use Prim.Native.Nat.{ℕ, zero, suc, ◌+◌, ◌/◌, ◌%◌, ◌≤◌, ◌<◌}
use mathlib.Core.Path.{◌≡◌}
use mathlib.Core.Bool.{true, false, ◌&&◌, ◌||◌, or-false}
use mathlib.Core.List.{List}
use native.Mathlib.Omega.{arith}
use borrow.Author.Tests.{leb-true, eqb-true}
use lib.Dec.{leb, eqb}
use lib.ListN.{length}
use Rattle.paper.proofs.Tests.{and_left, and_right}
use Rattle.rules.specs.declared.Rule.{Rule}
use Rattle.rules.specs.Rules.{rule_at, rules_from, rules_of, rule_good, all_good, count_kind, accepted_rules}
use Rattle.rules.proofs.Walk.{good_cons}

-- ---- the counts

pub record Counts (rs : List Rule) : Type 0 where
  pub fixed_few : count_kind 1 rs ≤ 64
  pub gregorian_few : count_kind 2 rs ≤ 64
  pub computed_few : count_kind 3 rs ≤ 64
  pub overrides_few : count_kind 4 rs ≤ 128

pub record GoodRules (xs : List ℕ) : Type 0 where
  pub whole : length xs % 8 ≡ 0
  pub good : all_good (rules_of xs) ≡ true
  pub counts : Counts (rules_of xs)

pub good_rules : (xs : List ℕ) → accepted_rules xs ≡ true → GoodRules xs
unfolding accepted_rules
good_rules xs e =
    let rs = rules_of xs in
    let a = eqb (length xs % 8) 0 in
    let n₁ = leb (count_kind 1 rs) 64 in
    let n₂ = leb (count_kind 2 rs) 64 in
    let n₃ = leb (count_kind 3 rs) 64 in
    let n₄ = leb (count_kind 4 rs) 128 in
    let p₁ = all_good rs && n₁ in
    let p₂ = p₁ && n₂ in
    let p₃ = p₂ && n₃ in
    let q₄ = and_right a (p₃ && n₄) e in
    let q₃ = and_left p₃ n₄ q₄ in
    let q₂ = and_left p₂ n₃ q₃ in
    let q₁ = and_left p₁ n₂ q₂ in
    record {
      whole = eqb-true (length xs % 8) 0 (and_left a (p₃ && n₄) e);
      good = and_left (all_good rs) n₁ q₁;
      counts =
          record {
            fixed_few = leb-true (count_kind 1 rs) 64 (and_right (all_good rs) n₁ q₁);
            gregorian_few = leb-true (count_kind 2 rs) 64 (and_right p₁ n₂ q₂);
            computed_few = leb-true (count_kind 3 rs) 64 (and_right p₂ n₃ q₃);
            overrides_few = leb-true (count_kind 4 rs) 128 (and_right p₃ n₄ q₄);
          };
    }

-- ---- each rule

good_at : (xs : List ℕ) (i k j : ℕ) → all_good (rules_from xs i k) ≡ true → j < k → rule_good (rule_at xs (i + j)) ≡ true
good_at xs i zero j e h = absurd (omega arith)
good_at xs i (suc k) zero e h =
    let p : i + 0 ≡ i = omega arith in
    rw p (and_left (rule_good (rule_at xs i)) _ (rw good_cons at e))
good_at xs i (suc k) (suc j) e h =
    let p : i + suc j ≡ i + 1 + j = omega arith in
    rw p (good_at xs (i + 1) k j (and_right (rule_good (rule_at xs i)) _ (rw good_cons at e)) (omega arith))

-- what resolving a year asks of a computed rule
pub record Computed (r : Rule) : Type 0 where
  pub month_from : 1 ≤ r.month
  pub month_to : r.month ≤ 12
  pub day_from : 1 ≤ r.day
  pub day_to : r.day ≤ 15
  pub half_to : r.half ≤ 1
  pub kala_to : r.kala ≤ 5

pub computed_of : (r : Rule) → rule_good r ≡ true → r.kind ≡ 3 → Computed r
unfolding rule_good
computed_of r e q =
    let m₁ = leb 1 r.month in
    let m₂ = leb r.month 12 in
    let d₁ = leb 1 r.day in
    let d₂ = leb r.day 15 in
    let w = m₁ && m₂ && d₁ && d₂ in
    let y = eqb r.year 0 in
    let p = leb r.half 1 in
    let k = leb r.kala 5 in
    let f : (leb r.holiday 1 && (y && w && p && k || false)) ≡ true = rw q at e in
    let b = rw or-false at (and_right (leb r.holiday 1) (y && w && p && k || false) f) in
    let b₂ = and_left (y && w && p) k b in
    let a₄ = and_right y w (and_left (y && w) p b₂) in
    let a₃ = and_left (m₁ && m₂ && d₁) d₂ a₄ in
    let a₂ = and_left (m₁ && m₂) d₁ a₃ in
    record {
      month_from = leb-true 1 r.month (and_left m₁ m₂ a₂);
      month_to = leb-true r.month 12 (and_right m₁ m₂ a₂);
      day_from = leb-true 1 r.day (and_right (m₁ && m₂) d₁ a₃);
      day_to = leb-true r.day 15 (and_right (m₁ && m₂ && d₁) d₂ a₄);
      half_to = leb-true r.half 1 (and_right (y && w) p b₂);
      kala_to = leb-true r.kala 5 (and_right (y && w && p) k b);
    }

-- rule number i of a good list
pub good_rule : (xs : List ℕ) (i : ℕ) (r : Rule) → accepted_rules xs ≡ true → i < length xs / 8 → r ≡ rule_at xs i → rule_good r ≡ true
good_rule xs i r e h er =
    let z : 0 + i ≡ i = omega arith in
    rw (er, ← z) (good_at xs 0 (length xs / 8) i (good_rules xs e).good h)
