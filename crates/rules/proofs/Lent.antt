-- What is lent: the laws of accepting it. Assumes nothing.
use Rattle.std.specs.Prelude.{Err, Ok}
use mathlib.Core.Path.{◌≡◌, sym, ◌∙◌}
use mathlib.Core.Bool.{Bool, true, false}
use native.Mathlib.Omega.{arith}
use Prim.Native.Nat.{ℕ}
use Rattle.paper.specs.declared.Refusal.{Refusal}
use Rattle.paper.specs.declared.Refusal.TheVariants.{BadTable, BadRules}
use Rattle.paper.specs.Answers.{Answer, given}
use Rattle.paper.proofs.Answers.{given_answered, given_on}
use Rattle.conversion.specs.Calendar.{Calendar}
use Rattle.rules.specs.Lent.{lent, accepting}

-- a test that refused one answer refuses another
pub given_not : {A B : Type 0} (b : Bool) (j k : Refusal) (x : A) (a : Answer B) → Err k ≡ given b j (Ok x) → given b j a ≡ Err k
given_not true j k x a e = absurd (let z : ◌≡◌ {A = ℕ} 0 1 = cc in omega arith)
given_not false j k x a e = cc

module _ (c : Calendar) (ok : Bool) where
  -- where both are good, what is asked is answered
  pub lent_on : {A : Type 0} (a : Answer A) → c.good ≡ true → ok ≡ true → lent c ok a ≡ a
  lent_on a g o = given_on c.good BadTable _ g ∙ given_on ok BadRules a o

  -- what is answered was asked of what is good
  pub lent_told : {A : Type 0} (a : Answer A) {x : A} → lent c ok a ≡ Ok x → (c.good ≡ true) × (ok ≡ true) × (a ≡ Ok x)
  lent_told a e =
      let p = given_answered c.good BadTable _ e in
      let q = given_answered ok BadRules a p.1 in
      (p.0, q.0, q.1)

  pub accepted_both : ◌≡◌ {A = Answer Unit} (Ok tt) (accepting c ok) → (c.good ≡ true) × (ok ≡ true)
  accepted_both e = let t = lent_told {A = Unit} (Ok tt) (sym e) in (t.0, t.1)

  -- what is not accepted is refused, whatever is asked
  pub lent_not : {A : Type 0} (a : Answer A) (k : Refusal) → Err k ≡ accepting c ok → lent c ok a ≡ Err k
  lent_not a k e = go c.good ok e
    where
      go : (g o : Bool) → ◌≡◌ {A = Answer Unit} (Err k) (given g BadTable (given o BadRules (Ok tt))) → given g BadTable (given o BadRules a) ≡ Err k
      go true true f = absurd (let z : ◌≡◌ {A = ℕ} 0 1 = cc in omega arith)
      go true false f = cc
      go false o f = cc
