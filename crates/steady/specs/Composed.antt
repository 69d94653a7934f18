-- DEMAND 3 of two results of a call: one under a table, the other under the same table with more rows, each meeting the call's contract, as the checker
-- reads it (`Learnt`): a claim on the lifetimes, the arguments, the result and the parameters at exit. Assumes nothing.
use Rattle.std.specs.Prelude.{ℕ, ◌≡◌, Ok}
use Rattle.std.specs.Borrow.{Bor, MutBor, GName}
use Rattle.paper.specs.Answers.{Answer}

-- where something lent lies, which no contract of the engine asks
abbrev pub Place : Type 0
Place = (ℕ × ℕ) × GName

-- a reference to x that lies there, to read it; and one to write it
abbrev pub ref : {X : Type 0} → Place → X → Bor X
ref p x = record { ref_ptr = p.0; now = x }

abbrev pub mut_ref : {X : Type 0} → Place → X → MutBor X
mut_ref p x = record { ref_ptr = p.0; ghost_name = p.1; now = x }

-- C is the contract; `says` reads the answer of a result; `short` and `long` are the arguments of the two calls. What the first answers the second answers
abbrev pub AnswerCarries : {K : Type 0} {A R S : K → Type 0} {D : Type 0} → ((k : K) → A k → R k → S k → Type 0) → ((k : K) → R k → Answer D)
    → ((k : K) → A k) → ((k : K) → A k) → Type 0
AnswerCarries {K} {A} {R} {S} {D} C says short long = (k l : K) (x : R k) (y : R l) (s : S k) (t : S l) (v : D)
    → C k (short k) x s → C l (long l) y t → says k x ≡ Ok v → says l y ≡ Ok v

-- and what was lent, which `lent` reads from the parameters at exit, is left the same
abbrev pub Carries : {K : Type 0} {A R S : K → Type 0} {D B : Type 0} → ((k : K) → A k → R k → S k → Type 0) → ((k : K) → R k → Answer D)
    → ((k : K) → S k → B) → ((k : K) → A k) → ((k : K) → A k) → Type 0
Carries {K} {A} {R} {S} {D} {B} C says lent short long = (k l : K) (x : R k) (y : R l) (s : S k) (t : S l) (v : D)
    → C k (short k) x s → C l (long l) y t → says k x ≡ Ok v → (says l y ≡ Ok v) × (lent l t ≡ lent k s)
