-- What is claimed of the C functions. A contract, as the checker reads it (`Learnt`), is a claim on the lifetimes, the arguments, the number that is
-- answered and the parameters at exit. Assumes nothing.
use Rattle.std.specs.Prelude.{ℕ, ◌<◌, ◌≡◌, List, [], ◌∷◌, ◌⊎◌, length}
use Rattle.kept.specs.State.{State}
use Rattle.kept.specs.Operations.{Operation, next}
use Rattle.shelf.specs.Numbers.{Made}
use Rattle.steady.specs.Once.{OneOutcome}

module _ {K : Type 0} {A S : K → Type 0} {B : Type 0} (C : (k : K) → A k → ℕ → S k → Type 0) where
  -- `before` reads the lent places and buffers from the arguments, `after` from the parameters at exit
  pub record Crosses (before : (k : K) → A k → B) (after : (k : K) → S k → B) : Type 0 where
    -- no second number, and no second state of a place or a buffer, meets the contract
    pub once : OneOutcome C after
    -- a number other than 0 leaves every place and buffer
    pub left : (k : K) (a : A k) (x : ℕ) (s : S k) → C k a x s → (x ≡ 0 → ⊥) → after k s ≡ before k a

-- the same of a call that is lent a place for what its refusal n tells: `before` and `after` read the answer's places, that place, and the buffer
module _ {K : Type 0} {A S : K → Type 0} {P D B : Type 0} (n : ℕ) (C : (k : K) → A k → ℕ → S k → Type 0) where
  pub record CrossesTelling (before : (k : K) → A k → (P × D) × B) (after : (k : K) → S k → (P × D) × B) : Type 0 where
    -- no second number, and no second state of a place or the buffer, meets the contract
    pub once : OneOutcome C after
    -- a number other than 0 leaves the answer's places and the buffer
    pub left : (k : K) (a : A k) (x : ℕ) (s : S k) → C k a x s → (x ≡ 0 → ⊥)
        → ((after k s).0.0 ≡ (before k a).0.0) × ((after k s).1 ≡ (before k a).1)
    -- a number other than n leaves the place of what is told
    pub told_left : (k : K) (a : A k) (x : ℕ) (s : S k) → C k a x s → (x ≡ n → ⊥) → (after k s).0.1 ≡ (before k a).0.1

-- the number x is n where P holds, and 0 where it does not
pub record NumberIf (x n : ℕ) (P : Type 0) : Type 0 where
  pub when : P → x ≡ n
  pub only : (x ≡ 0 → ⊥) → P

module _ {K : Type 0} {A S : K → Type 0} {B : Type 0} (C : (k : K) → A k → ℕ → S k → Type 0) where
  -- DEMAND 3 at the boundary: `short` and `long` are the arguments of two calls, under a table and under the same with more rows, in all else the
  -- same; P says of what the second wrote that it lies in an added year, and n is the refusal's number
  pub record Grows (after : (k : K) → S k → B) (short long : (k : K) → A k) (n : ℕ) (P : B → Type 0) : Type 0 where
    -- what the shorter answers the longer answers, with the same numbers in each place and buffer
    pub same : (k l : K) (x y : ℕ) (s : S k) (t : S l) → C k (short k) x s → C l (long l) y t → x ≡ 0 → (y ≡ 0) × (after l t ≡ after k s)
    -- what the longer answers the shorter refuses exactly if it lies in an added year
    pub added : (k l : K) (x y : ℕ) (s : S k) (t : S l) → C k (short k) x s → C l (long l) y t → y ≡ 0 → NumberIf x n (P (after l t))

-- ---- calls over a kept array

-- an array of which a call promises what it does: too short, or one that holds a state
abbrev pub Meant : List ℕ → Type 0
Meant a = (length a < 4488) ⊎ ((σ : State) × Made a σ)

module _ {K : Type 0} {A S : K → Type 0} (C : (k : K) → A k → ℕ → S k → Type 0) (array : (k : K) → A k → List ℕ) where
  -- a contract on such arrays alone
  abbrev pub OfMeant : (k : K) → A k → ℕ → S k → Type 0
  OfMeant k a x s = Meant (array k a) × C k a x s

  -- such a call carries the state that the array holds to the state after an operation
  abbrev pub Carries : ((k : K) → S k → List ℕ) → ((k : K) → A k → Operation) → Type 0
  Carries after does = (k : K) (a : A k) (x : ℕ) (s : S k) → C k a x s → (σ : State) → Made (array k a) σ → Made (after k s) (next σ (does k a))

-- calls one after another, with the array before and after them: each carries the state that it holds to the state after its operation
pub data Calls : List ℕ → List Operation → List ℕ → Type 0 where
  none : {a : List ℕ} → Calls a [] a
  call : {a b c : List ℕ} {o : Operation} {os : List Operation} → ((σ : State) → Made a σ → Made b (next σ o)) → Calls b os c → Calls a (o ∷ os) c
