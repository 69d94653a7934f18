-- The two refusals of a day outside: how many days each tells, and that they are no other refusals. Assumes nothing.
use Rattle.std.specs.Prelude.{Err, None, Ok, Option, Some}
use Prim.Native.Nat.{ℕ}
use mathlib.Core.Path.{◌≡◌, ap}
use Rattle.paper.specs.declared.Refusal.{Refusal}
use Rattle.paper.specs.declared.Refusal.TheVariants.{Before, After}
use Rattle.paper.specs.declared.Told.{Told}
use Rattle.paper.specs.declared.Told.TheVariants as T
use Rattle.paper.specs.Answers.{Answer}
use Rattle.paper.specs.Refusals.{number, told}

abbrev days_before : Option Told → ℕ
days_before (Some (T.Before k)) = k
days_before (Some (T.After k)) = 0
days_before (Some (T.Line k)) = 0
days_before None = 0

abbrev days_after : Option Told → ℕ
days_after (Some (T.Before k)) = 0
days_after (Some (T.After k)) = k
days_after (Some (T.Line k)) = 0
days_after None = 0

-- what is made of a refusal, 0 of an answer
abbrev of_refusal : {A : Type 0} → (Refusal → ℕ) → Answer A → ℕ
of_refusal f (Ok x) = 0
of_refusal f (Err k) = f k

-- a refusal is the same whatever is asked
abbrev or_else : {A : Type 0} → Refusal → Answer A → Refusal
or_else other (Ok x) = other
or_else other (Err k) = k

pub refused_as : {A B : Type 0} {j k : Refusal} → ◌≡◌ {A = Answer A} (Err j) (Err k) → ◌≡◌ {A = Answer B} (Err j) (Err k)
refused_as {A} {B} {j} e = ap (λ (a : Answer A). Err (or_else j a)) e

-- equal refusals have one number
pub same_number : {A : Type 0} {j k : Refusal} → ◌≡◌ {A = Answer A} (Err j) (Err k) → number j ≡ number k
same_number e = ap (of_refusal number) e

-- and tell the same days
pub same_before : {A : Type 0} {j k : ℕ} → ◌≡◌ {A = Answer A} (Err (Before j)) (Err (Before k)) → j ≡ k
same_before e = ap (of_refusal (λ r. days_before (told r))) e

pub same_after : {A : Type 0} {j k : ℕ} → ◌≡◌ {A = Answer A} (Err (After j)) (Err (After k)) → j ≡ k
same_after e = ap (of_refusal (λ r. days_after (told r))) e

-- of the two sides the one that is told has no day on the other
pub after_before : {A : Type 0} {j k : ℕ} → ◌≡◌ {A = Answer A} (Err (After j)) (Err (Before k)) → j ≡ 0
after_before e = ap (of_refusal (λ r. days_after (told r))) e

pub before_after : {A : Type 0} {j k : ℕ} → ◌≡◌ {A = Answer A} (Err (Before j)) (Err (After k)) → j ≡ 0
before_after e = ap (of_refusal (λ r. days_before (told r))) e
