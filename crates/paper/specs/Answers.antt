-- What a call answers: a value, or a refusal (docs/RULES.md, Refusals). Assumes nothing.
use Rattle.std.specs.Prelude.{Bool, true, false, Result, Ok, Err}
use Rattle.paper.specs.declared.Refusal.{Refusal}

abbrev pub Answer : Type 0 → Type 0
Answer A = Result A Refusal

-- the refusal k unless the test passes
abbrev pub given : {A : Type 0} → Bool → Refusal → Answer A → Answer A
given true k a = a
given false k a = Err k

-- what a next step makes of the value; a refusal stays
abbrev pub then : {A B : Type 0} → Answer A → (A → Answer B) → Answer B
then (Ok x) f = f x
then (Err k) f = Err k
