-- Laws of answers: what a test before an answer shows, and how steps follow one another. Assumes nothing.
use Prim.Native.Nat.{ℕ}
use mathlib.Core.Path.{◌≡◌, refl, sym, ap, ◌∙◌}
use mathlib.Core.Bool.{Bool, true, false}
use native.Mathlib.Omega.{arith}
use Rattle.paper.specs.declared.Refusal.{Refusal}
use Rattle.std.specs.Prelude.{Ok, Err}
use Rattle.std.specs.Result.{IsErrAnd}
use Rattle.std.proofs.lemmas.Result.{err_from_is_err_and}
use Rattle.paper.specs.Answers.{Answer, given, then}

pub answered_same : {A : Type 0} {x y : A} → ◌≡◌ {A = Answer A} (Ok x) (Ok y) → x ≡ y
answered_same e = cc

pub refused_answered : {A : Type 0} {a : Answer A} {k : Refusal} {x : A} → a ≡ Err k → a ≡ Ok x → ⊥
refused_answered e q = let z : ◌≡◌ {A = ℕ} 0 1 = cc in omega arith

-- an answer passed the test, and a test passed gives the answer
pub given_answered : {A : Type 0} (b : Bool) (k : Refusal) (a : Answer A) {x : A} → given b k a ≡ Ok x → (b ≡ true) × (a ≡ Ok x)
given_answered true k a e = (refl, e)
given_answered false k a e = absurd (let z : ◌≡◌ {A = ℕ} 0 1 = cc in omega arith)

-- of one test and a value: the value passed it, the refusal failed it
pub given_told : {A : Type 0} (b : Bool) (k : Refusal) (v x : A) → Ok x ≡ given b k (Ok v) → (b ≡ true) × (x ≡ v)
given_told true k v x e = (refl, answered_same e)
given_told false k v x e = absurd (refused_answered refl (sym e))

pub given_refused : {A : Type 0} (b : Bool) (k : Refusal) (v : A) (j : Refusal) → Err j ≡ given b k (Ok v) → (b ≡ false) × (j ≡ k)
given_refused true k v j e = absurd (refused_answered (sym e) refl)
given_refused false k v j e = (refl, cc)

-- tests before a step are tests before the whole
pub given_then : {A B : Type 0} (b : Bool) (k : Refusal) (a : Answer A) (f : A → Answer B) → then (given b k a) f ≡ given b k (then a f)
given_then true k a f = refl
given_then false k a f = refl

pub then_answered : {A B : Type 0} (x : A) (f : A → Answer B) → then (Ok x) f ≡ f x
then_answered x f = refl

pub then_refused : {A B : Type 0} (k : Refusal) (f : A → Answer B) → then (Err k) f ≡ Err k
then_refused k f = refl

-- what an answer says tells the answer, where it can be read back
pub told_by_law : {R A : Type 0} (says : R → A) (back : A → R) → ((r : R) → back (says r) ≡ r) → (r s : R) → says r ≡ says s → r ≡ s
told_by_law says back h r s e = sym (h r) ∙ ap back e ∙ h s

-- a test passed leaves the answer, a test failed gives the refusal
pub given_on : {A : Type 0} (b : Bool) (k : Refusal) (a : Answer A) → b ≡ true → given b k a ≡ a
given_on b k a e = rw e

pub given_off : {A : Type 0} (b : Bool) (k : Refusal) (a : Answer A) → b ≡ false → given b k a ≡ Err k
given_off b k a e = rw e

-- what a `?` passes on: the refusal that was given
pub passed_on : {A : Type 0} (r : Answer A) {k : Refusal} {a : Answer A} → IsErrAnd r (λ e. e ≡ k) → Err k ≡ a → r ≡ a
passed_on r h q = let p = err_from_is_err_and r h in rw (p.1, p.2) q

-- what an answer says, once it is known which it is
pub said : {R A : Type 0} (says : R → A) {r v : R} {a : A} → r ≡ v → says r ≡ a → says v ≡ a
said says e h = sym (ap says e) ∙ h

-- the same, once it is known which answer was given
pub shown : {R : Type 0} {r v a : R} → r ≡ v → r ≡ a → v ≡ a
shown e h = sym e ∙ h
