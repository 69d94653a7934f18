-- A good list has at most 320 rules: each is of one of the four kinds. Assumes nothing.
use Prim.Native.Nat.{ℕ, zero, suc, ◌+◌, ◌/◌, ◌≤◌, ◌<◌}
use mathlib.Core.Path.{◌≡◌, refl, sym, ap}
use mathlib.Core.Bool.{Bool, true, false, cond, ◌&&◌, ◌||◌, true≢false}
use mathlib.Core.List.{List, [], ◌∷◌}
use native.Mathlib.Omega.{arith}
use lib.Dec.{leb, eqb}
use lib.ListN.{length}
use Rattle.paper.proofs.Tests.{and_left, and_right, never}
use Rattle.rules.specs.declared.Rule.{Rule}
use Rattle.rules.specs.Rules.{has_date, plain, fixed, gregorian, computed, override, rules_from, rules_of, rule_good, all_good, count_kind, accepted_rules}
use Rattle.rules.proofs.Accepted.{good_rules}
use Rattle.rules.proofs.Walk.{good_cons}

-- how many rules have one of the four kinds
abbrev kinds : List Rule → ℕ
kinds rs = count_kind 1 rs + count_kind 2 rs + count_kind 3 rs + count_kind 4 rs

abbrev one : Bool → ℕ
one b = cond b 1 0

count_cons : (k : ℕ) (r : Rule) (rs : List Rule) → count_kind k (r ∷ rs) ≡ count_kind k rs + one (eqb r.kind k)
unfolding count_kind
count_cons k r rs = go (eqb r.kind k)
  where
    go : (b : Bool) → cond b (count_kind k rs + 1) (count_kind k rs) ≡ count_kind k rs + one b
    go true = refl
    go false = omega arith

-- where one of four tests passes, one of what they ask for does
some_kind : (p q r s a b c d : Bool) → (p ≡ true → a ≡ true) → (q ≡ true → b ≡ true) → (r ≡ true → c ≡ true) → (s ≡ true → d ≡ true)
    → (p || q || r || s) ≡ true → 1 ≤ one a + one b + one c + one d
some_kind true q r s a b c d f g h k e = let z = f refl in rw z (omega arith)
some_kind false true r s a b c d f g h k e = let z = g refl in rw z (omega arith)
some_kind false false true s a b c d f g h k e = let z = h refl in rw z (omega arith)
some_kind false false false true a b c d f g h k e = let z = k refl in rw z (omega arith)
some_kind false false false false a b c d f g h k e = absurd (true≢false (sym e))

-- the first of several tests
first : (a b c : Bool) → (a && b && c) ≡ true → a ≡ true
first true b c e = refl
first false b c e = e

has_kind : (r : Rule) → rule_good r ≡ true → 1 ≤ one (eqb r.kind 1) + one (eqb r.kind 2) + one (eqb r.kind 3) + one (eqb r.kind 4)
unfolding rule_good
has_kind r e =
    let k₁ = eqb r.kind 1 in
    let k₂ = eqb r.kind 2 in
    let k₃ = eqb r.kind 3 in
    let k₄ = eqb r.kind 4 in
    let year = eqb r.year 0 in
    let half = leb r.half 1 in
    some_kind (fixed r) (gregorian r) (computed r) (override r) k₁ k₂ k₃ k₄
    (λ q. first k₁ year (has_date r 32) (and_left (k₁ && year && has_date r 32) (plain r) q))
    (λ q. first k₂ year (has_date r 31) (and_left (k₂ && year && has_date r 31) (plain r) q))
    (λ q. first k₃ year (has_date r 15) (and_left (k₃ && year && has_date r 15) half (and_left (k₃ && year && has_date r 15 && half) (leb r.kala 5) q)))
    (first k₄ (has_date r 32) (plain r))
    (and_right (leb r.holiday 1) (fixed r || gregorian r || computed r || override r) e)

all_kinds : (rs : List Rule) → all_good rs ≡ true → length rs ≤ kinds rs
all_kinds [] e = omega arith
all_kinds (r ∷ rs) e =
    let g = rw good_cons at e in
    let k = has_kind r (and_left (rule_good r) (all_good rs) g) in
    let m = all_kinds rs (and_right (rule_good r) (all_good rs) g) in
    omega (arith, k, m, count_cons 1 r rs, count_cons 2 r rs, count_cons 3 r rs, count_cons 4 r rs)

length_rules : (xs : List ℕ) (i k : ℕ) → length (rules_from xs i k) ≡ k
length_rules xs i zero = refl
length_rules xs i (suc k) = ap suc (length_rules xs (i + 1) k)

pub few_rules : (xs : List ℕ) → accepted_rules xs ≡ true → length xs ≤ 2560
few_rules xs e =
    let g = good_rules xs e in
    let n = g.counts in
    omega (arith, all_kinds (rules_of xs) g.good, length_rules xs 0 (length xs / 8), n.fixed_few, n.gregorian_few, n.computed_few, n.overrides_few, g.whole)

-- so a longer list is refused
pub too_many : (xs : List ℕ) → 2560 < length xs → accepted_rules xs ≡ false
too_many xs h = never (accepted_rules xs) (λ e. omega (arith, few_rules xs e))
