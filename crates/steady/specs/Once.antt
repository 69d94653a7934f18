-- That a contract leaves one answer. A contract, as the checker reads it (`Learnt`), is a claim on the lifetimes, the arguments, the result and
-- the parameters at exit. Assumes nothing.
use Rattle.std.specs.Prelude.{◌≡◌}

-- two results that meet the contract, for the same arguments, are equal
abbrev pub OneAnswer : {K : Type 0} {A R S : K → Type 0} → ((k : K) → A k → R k → S k → Type 0) → Type 0
OneAnswer {K} {A} {R} {S} C = (k : K) (a : A k) (x y : R k) (s t : S k) → C k a x s → C k a y t → x ≡ y

-- and so are two states of what was lent, which `lent` reads from the parameters at exit
abbrev pub OneOutcome : {K : Type 0} {A R S : K → Type 0} {B : Type 0} → ((k : K) → A k → R k → S k → Type 0) → ((k : K) → S k → B) → Type 0
OneOutcome {K} {A} {R} {S} C lent = (k : K) (a : A k) (x y : R k) (s t : S k) → C k a x s → C k a y t → (x ≡ y) × (lent k s ≡ lent k t)

-- the same of a contract that promises something where P holds of the arguments
abbrev pub OneAnswerIf : {K : Type 0} {A R S : K → Type 0} → ((k : K) → A k → Type 0) → ((k : K) → A k → R k → S k → Type 0) → Type 0
OneAnswerIf {K} {A} {R} {S} P C = (k : K) (a : A k) → P k a → (x y : R k) (s t : S k) → C k a x s → C k a y t → x ≡ y

abbrev pub OneOutcomeIf : {K : Type 0} {A R S : K → Type 0} {B : Type 0} → ((k : K) → A k → Type 0) → ((k : K) → A k → R k → S k → Type 0)
    → ((k : K) → S k → B) → Type 0
OneOutcomeIf {K} {A} {R} {S} P C lent = (k : K) (a : A k) → P k a → (x y : R k) (s t : S k) → C k a x s → C k a y t → (x ≡ y) × (lent k s ≡ lent k t)
