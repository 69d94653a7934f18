-- Laws of the rules that a loop over the list has left. Assumes nothing.
use mathlib.Core.Path.{◌≡◌, refl, sym, ap, ◌∙◌}
use mathlib.Core.Bool.{Bool, true, ◌&&◌, and_assoc}
use mathlib.Core.List.{List, [], ◌∷◌}
use Prim.Native.Nat.{ℕ, suc, ◌+◌, ◌-◌, ◌≤◌, ◌<◌}
use native.Mathlib.Omega.{arith}
use borrow.Author.Tests.{eq-eqb, ne_eqb}
use Rattle.rules.specs.declared.Rule.{Rule}
use Rattle.rules.specs.Rules.{rule_at, rules_from, rule_good, all_good, count_kind}

-- what is left at i is rule i and what is left at i + 1
pub left_step : (xs : List ℕ) (i n : ℕ) → i < n → rules_from xs i (n - i) ≡ rule_at xs i ∷ rules_from xs (i + 1) (n - (i + 1))
left_step xs i n h =
    let e : n - i ≡ suc (n - (i + 1)) = omega arith in
    rw e

-- nothing is left at the end
pub left_none : (xs : List ℕ) (i n : ℕ) → n ≤ i → rules_from xs i (n - i) ≡ []
left_none xs i n h =
    let e : n - i ≡ 0 = omega arith in
    rw e

pub good_none : all_good [] ≡ true
unfolding all_good
good_none = refl

pub good_cons : (r : Rule) (rs : List Rule) → all_good (r ∷ rs) ≡ (rule_good r && all_good rs)
unfolding all_good
good_cons r rs = refl

pub count_none : (k : ℕ) → count_kind k [] ≡ 0
unfolding count_kind
count_none k = refl

pub count_is : (k : ℕ) (r : Rule) (rs : List Rule) → r.kind ≡ k → count_kind k (r ∷ rs) ≡ count_kind k rs + 1
unfolding count_kind
count_is k r rs e = rw (eq-eqb r.kind k e)

pub count_not : (k : ℕ) (r : Rule) (rs : List Rule) → (r.kind ≡ k → ⊥) → count_kind k (r ∷ rs) ≡ count_kind k rs
unfolding count_kind
count_not k r rs e = rw (ne_eqb r.kind k e)

-- a turn of a loop over the rules
module _ (xs : List ℕ) (i n : ℕ) (h : i < n) (r : Rule) (er : r ≡ rule_at xs i) where
  abbrev pub rest : List Rule
  rest = rules_from xs (i + 1) (n - (i + 1))

  pub left : rules_from xs i (n - i) ≡ r ∷ rest
  left = left_step xs i n h ∙ ap (λ (q : Rule). q ∷ rest) (sym er)

  pub good_turn : (a b t : Bool) → (a && all_good (rules_from xs i (n - i))) ≡ t → b ≡ rule_good r → (a && b && all_good rest) ≡ t
  good_turn a b t e eb = and_assoc a b (all_good rest) ∙ rw (eb, ← good_cons r rest, ← left) e

  module _ (k a t : ℕ) (e : a + count_kind k (rules_from xs i (n - i)) ≡ t) where
    pub count_turn : r.kind ≡ k → a + 1 + count_kind k rest ≡ t
    count_turn q = omega (arith, e, ap (count_kind k) left ∙ count_is k r rest q)

    pub count-skip : (r.kind ≡ k → ⊥) → a + count_kind k rest ≡ t
    count-skip q = omega (arith, e, ap (count_kind k) left ∙ count_not k r rest q)
