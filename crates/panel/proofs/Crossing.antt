-- The laws of how an answer crosses: an equation with a definition determines the number and all that was lent, and a refusal leaves that.
-- Assumes nothing.
use Rattle.std.specs.Prelude.{Err, None, Ok, Option, Some}
use Prim.Native.Nat.{ℕ}
use mathlib.Core.Path.{◌≡◌, refl, sym, ap, ◌∙◌}
use mathlib.Core.List.{List}
use native.Mathlib.Omega.{arith}
use lib.Ieee.{Float}
use lib.ListN.{length}
use Rattle.paper.specs.declared.Refusal.{Refusal}
use Rattle.paper.specs.declared.Refusal.TheVariants as R
use Rattle.paper.specs.Answers.{Answer}
use Rattle.paper.specs.Refusals.{number, told}
use Rattle.paper.specs.declared.Told as Paper
use Rattle.sky.specs.Answers.{starts_answer, starts_buffer}
use Rattle.rules.specs.Festivals.{Pair, Listed, listed}
use Rattle.grid.specs.Month.{Grid, Shown, shown}
use Rattle.rulefile.specs.Files.{read_into, write_into}
use Rattle.rulefile.proofs.Theorems.{rule_files}
use Rattle.steady.specs.Once.{OneOutcome}
use Rattle.steady.proofs.Refusals.{list_left, month_left, starts_left}
use Rattle.panel.specs.Boundary.{code, gives, gives_some, gives_list, gives_list_ad, gives_month, line_in, days_in, gives_told, gives_read, gives_written, MonthPlaces, month_numbers}
use Rattle.panel.specs.Lent.{MonthState}
use Rattle.panel.specs.Claims.{Crosses, CrossesTelling}
use Rattle.panel.proofs.Handing.{both}

-- no refusal has the number 0
number_not_zero : (k : Refusal) → number k ≡ 0 → ⊥
number_not_zero R.BadTable h = omega arith
number_not_zero R.BadRules h = omega arith
number_not_zero R.NoSuchDate h = omega arith
number_not_zero R.NoYear h = omega arith
number_not_zero R.NoMonth h = omega arith
number_not_zero R.NoDay h = omega arith
number_not_zero (R.Before j) h = omega arith
number_not_zero (R.After j) h = omega arith
number_not_zero R.OutOfRange h = omega arith
number_not_zero R.NoRoom h = omega arith
number_not_zero R.OffTable h = omega arith
number_not_zero R.NotEnded h = omega arith
number_not_zero (R.OutOfForm j) h = omega arith
number_not_zero R.NoRow h = omega arith

-- what has the number 0 is answered
pub zero_answered : {A : Type 0} (a : Answer A) → code a ≡ 0 → (x : A) × (a ≡ Ok x)
zero_answered (Ok x) h = (x, refl)
zero_answered (Err k) h = absurd (number_not_zero k h)

-- what has another number is refused
pub other_refused : {A : Type 0} (a : Answer A) → (code a ≡ 0 → ⊥) → (k : Refusal) × (a ≡ Err k)
other_refused (Ok x) h = absurd (h refl)
other_refused (Err k) h = (k, refl)

-- the number that is given is the answer's
pub gives_code : {A P : Type 0} (a : Answer A) (parts : A → P) (old : P) → (gives a parts old).0 ≡ code a
gives_code (Ok x) parts old = refl
gives_code (Err k) parts old = refl

-- a number other than 0 leaves the places
pub gives_left : {A P : Type 0} (a : Answer A) (parts : A → P) (old : P) → ((gives a parts old).0 ≡ 0 → ⊥) → (gives a parts old).1 ≡ old
gives_left (Ok x) parts old h = absurd (h refl)
gives_left (Err k) parts old h = refl

-- the same of an answer that may be none
some_left : {A P : Type 0} (a : Answer (Option A)) (parts : A → P) (old : ℕ × P) → ((gives_some a parts old).0 ≡ 0 → ⊥) → (gives_some a parts old).1 ≡ old
some_left (Ok (Some x)) parts old h = absurd (h refl)
some_left (Ok None) parts old h = absurd (h refl)
some_left (Err k) parts old h = refl

-- ---- the number, and all that was lent in one
abbrev pub Told : Type 0 → Type 0
Told B = ℕ × B

-- a day's list, a month, a rule file written, and a day's list asked by Gregorian date
abbrev pub told_list : Listed → ℕ → Told (ℕ × List ℕ)
told_list l old = let g = gives_list l old in (g.0.0, (g.0.1, g.1))

abbrev pub told_month : Shown → MonthPlaces → Told MonthState
told_month m old = let g = gives_month m old in (g.0.0, (g.0.1, g.1))

abbrev pub told_written : Answer ℕ × List ℕ → ℕ → Told (ℕ × List ℕ)
told_written w old = let g = gives_written w old in (g.0.0, (g.0.1, g.1))

abbrev pub told_list_ad : Listed → ℕ × (ℕ × ℕ) → Told ((ℕ × (ℕ × ℕ)) × List ℕ)
told_list_ad l old = let g = gives_list_ad l old in (g.0.0, (g.0.1, g.1))

-- an equation on the number and the places, beside the buffers, is one on the number and all of these
pub beside : {P X : Type 0} {x : ℕ} {u : P} {b : X} {d : (ℕ × P) × X} → ◌≡◌ {A = (ℕ × P) × X} ((x, u), b) d → ◌≡◌ {A = ℕ × (P × X)} (x, (u, b)) (d.0.0, (d.0.1, d.1))
beside {P} {X} e = ap (λ (z : (ℕ × P) × X). (z.0.0, (z.0.1, z.1))) e

module _ {K : Type 0} {A S : K → Type 0} {B : Type 0} {C : (k : K) → A k → ℕ → S k → Type 0} {after : (k : K) → S k → B} where
  -- a contract that is an equation of the number and all that was lent with what a definition tells leaves one outcome
  one_outcome : (told : (k : K) → A k → Told B) → ((k : K) (a : A k) (x : ℕ) (s : S k) → C k a x s → ◌≡◌ {A = Told B} (x, after k s) (told k a)) → OneOutcome C after
  one_outcome told e k a x y s t p q =
      let d : ◌≡◌ {A = Told B} (x, after k s) (y, after k t) = e k a x s p ∙ sym (e k a y t q) in
      (ap (λ (z : Told B). z.0) d, ap (λ (z : Told B). z.1) d)

module _ {K : Type 0} {A S : K → Type 0} {B : Type 0} {C : (k : K) → A k → ℕ → S k → Type 0} {before : (k : K) → A k → B} {after : (k : K) → S k → B} where
  -- THE LAW: such a contract, whose definition leaves what was lent where its number is not 0
  pub crosses : (told : (k : K) → A k → Told B) → ((k : K) (a : A k) (x : ℕ) (s : S k) → C k a x s → ◌≡◌ {A = Told B} (x, after k s) (told k a))
      → ((k : K) (a : A k) → ((told k a).0 ≡ 0 → ⊥) → (told k a).1 ≡ before k a) → Crosses C before after
  crosses told e h =
      record {
        once = one_outcome told e;
        left = λ k a x s p n.
            let d = e k a x s p in
            ap (λ (z : Told B). z.1) d ∙ h k a (λ z. n (ap (λ (z : Told B). z.0) d ∙ z));
      }

  -- a contract that is an equation with `gives`
  pub by_gives : {X : Type 0} (answer : (k : K) → A k → Answer X) (parts : X → B)
      → ((k : K) (a : A k) (x : ℕ) (s : S k) → C k a x s → ◌≡◌ {A = Told B} (x, after k s) (gives (answer k a) parts (before k a))) → Crosses C before after
  by_gives answer parts e = crosses (λ k a. gives (answer k a) parts (before k a)) e (λ k a. gives_left (answer k a) parts (before k a))

  -- a function that refuses nothing
  pub by_value : (value : (k : K) → A k → B) → ((k : K) (a : A k) (x : ℕ) (s : S k) → C k a x s → (x ≡ 0) × (after k s ≡ value k a)) → Crosses C before after
  by_value value e = crosses (λ k a. (0, value k a)) (λ k a x s p. let q = e k a x s p in both q.0 q.1) (λ k a h. absurd (h refl))

module _ {K : Type 0} {A S : K → Type 0} {P : Type 0} {C : (k : K) → A k → ℕ → S k → Type 0} {before : (k : K) → A k → ℕ × P} {after : (k : K) → S k → ℕ × P} where
  -- a contract that is an equation with `gives_some`
  pub by_some : {X : Type 0} (answer : (k : K) → A k → Answer (Option X)) (parts : X → P)
      → ((k : K) (a : A k) (x : ℕ) (s : S k) → C k a x s → ◌≡◌ {A = Told (ℕ × P)} (x, after k s) (gives_some (answer k a) parts (before k a))) → Crosses C before after
  by_some answer parts e = crosses (λ k a. gives_some (answer k a) parts (before k a)) e (λ k a. some_left (answer k a) parts (before k a))

-- ---- with buffers

-- a number other than 0 leaves the count and the buffer of a day's list
list_leaves : (a : Answer (List Pair)) (old : ℕ × List ℕ) → ((told_list (listed a old.1) old.0).0 ≡ 0 → ⊥) → (told_list (listed a old.1) old.0).1 ≡ old
list_leaves a old h =
    let l = listed a old.1 in
    let r = other_refused l.answer (λ z. h (gives_code l.answer (λ n. n) old.0 ∙ z)) in
    both (gives_left l.answer (λ n. n) old.0 h) (list_left a old.1 r.0 r.1)

-- the numbers and both buffers of a month
month_leaves : (a : Answer Grid) (old : MonthState) → ((told_month (shown a old.1.0 old.1.1) old.0).0 ≡ 0 → ⊥)
    → (told_month (shown a old.1.0 old.1.1) old.0).1 ≡ old
month_leaves a old h =
    let m = shown a old.1.0 old.1.1 in
    let r = other_refused m.answer (λ z. h (gives_code m.answer month_numbers old.0 ∙ z)) in
    let b = month_left a old.1.0 old.1.1 r.0 r.1 in
    both (gives_left m.answer month_numbers old.0 h) (both b.0 b.1)

-- the two counts and the buffer of a search
starts_leaves : (n : ℕ) (from to : Float) (old : (ℕ × ℕ) × List Float)
    → ((gives (starts_answer n from to (length old.1)) (λ x. x) old.0).0 ≡ 0 → ⊥)
    → ◌≡◌ {A = (ℕ × ℕ) × List Float} ((gives (starts_answer n from to (length old.1)) (λ x. x) old.0).1, starts_buffer n from to old.1) old
starts_leaves n from to old h =
    let a = starts_answer n from to (length old.1) in
    let r = other_refused a (λ z. h (gives_code a (λ x. x) old.0 ∙ z)) in
    both (gives_left a (λ x. x) old.0 h) (starts_left n from to old.1 r.0 r.1)

-- the count and the buffer of a rule file that is written
written_leaves : (rules : List ℕ) (old : ℕ × List ℕ) → ((told_written (write_into rules old.1) old.0).0 ≡ 0 → ⊥) → (told_written (write_into rules old.1) old.0).1 ≡ old
written_leaves rules old h =
    let w = write_into rules old.1 in
    let r = other_refused w.0 (λ z. h (gives_code w.0 (λ n. n) old.0 ∙ z)) in
    both (gives_left w.0 (λ n. n) old.0 h) (rule_files.write_left rules old.1 r.0 r.1)

-- ---- with the place of what a refusal tells

-- a refusal with another number than 12 tells no line
no_line : (k : Refusal) (old : ℕ) → (number k ≡ 12 → ⊥) → line_in (told k) old ≡ old
no_line R.BadTable old h = refl
no_line R.BadRules old h = refl
no_line R.NoSuchDate old h = refl
no_line R.NoYear old h = refl
no_line R.NoMonth old h = refl
no_line R.NoDay old h = refl
no_line (R.Before j) old h = refl
no_line (R.After j) old h = refl
no_line R.OutOfRange old h = refl
no_line R.NoRoom old h = refl
no_line R.OffTable old h = refl
no_line R.NotEnded old h = refl
no_line (R.OutOfForm j) old h = absurd (h refl)
no_line R.NoRow old h = refl

-- a refusal with another number than 7 tells no days
pub no_days : (k : Refusal) (old : ℕ × ℕ) → (number k ≡ 7 → ⊥) → days_in (told k) old ≡ old
no_days R.BadTable old h = refl
no_days R.BadRules old h = refl
no_days R.NoSuchDate old h = refl
no_days R.NoYear old h = refl
no_days R.NoMonth old h = refl
no_days R.NoDay old h = refl
no_days (R.Before j) old h = absurd (h refl)
no_days (R.After j) old h = absurd (h refl)
no_days R.OutOfRange old h = refl
no_days R.NoRoom old h = refl
no_days R.OffTable old h = refl
no_days R.NotEnded old h = refl
no_days (R.OutOfForm j) old h = refl
no_days R.NoRow old h = refl

module _ {A P D : Type 0} (tell : Option Paper.Told → D → D) (parts : A → P) where
  -- the number that is given is the answer's
  pub told_code : (a : Answer A) (old : P × D) → (gives_told tell a parts old).0 ≡ code a
  told_code (Ok x) old = refl
  told_code (Err k) old = refl

  -- a number other than 0 leaves the answer's places
  pub parts_kept : (a : Answer A) (old : P × D) → ((gives_told tell a parts old).0 ≡ 0 → ⊥) → (gives_told tell a parts old).1.0 ≡ old.0
  parts_kept (Ok x) old h = absurd (h refl)
  parts_kept (Err k) old h = refl

  -- where n alone tells something, another number leaves its place
  pub told_kept : (n : ℕ) → ((k : Refusal) (old : D) → (number k ≡ n → ⊥) → tell (told k) old ≡ old) → (a : Answer A) (old : P × D)
      → ((gives_told tell a parts old).0 ≡ n → ⊥) → (gives_told tell a parts old).1.1 ≡ old.1
  told_kept n quiet (Ok x) old h = refl
  told_kept n quiet (Err k) old h = quiet k old.1 h

module _ {K : Type 0} {A S : K → Type 0} {C : (k : K) → A k → ℕ → S k → Type 0} {P D B X : Type 0} {before : (k : K) → A k → (P × D) × B} {after : (k : K) → S k → (P × D) × B} where
  -- THE LAW for such a call: `answer` is its answer, and `buffer` what it leaves in the buffer, which a refusal does not change
  by_telling : (tell : Option Paper.Told → D → D) (n : ℕ) → ((k : Refusal) (old : D) → (number k ≡ n → ⊥) → tell (told k) old ≡ old)
      → (answer : (k : K) → A k → Answer X) (parts : X → P) (buffer : (k : K) → A k → B)
      → ((k : K) (a : A k) (j : Refusal) → answer k a ≡ Err j → buffer k a ≡ (before k a).1)
      → ((k : K) (a : A k) (x : ℕ) (s : S k) → C k a x s → ◌≡◌ {A = Told (P × D) × B} ((x, (after k s).0), (after k s).1) (gives_told tell (answer k a) parts (before k a).0, buffer k a))
      → CrossesTelling n C before after
  by_telling tell n quiet answer parts buffer kept e =
      record {
        once = one_outcome (λ k a. let g = gives_told tell (answer k a) parts (before k a).0 in (g.0, (g.1, buffer k a))) (λ k a x s p. beside (e k a x s p));
        left = λ k a x s p z.
            let d = e k a x s p in
            let old = (before k a).0 in
            let other : (gives_told tell (answer k a) parts old).0 ≡ 0 → ⊥ = λ q. z (ap (λ (g : Told (P × D) × B). g.0.0) d ∙ q) in
            let r = other_refused (answer k a) (λ q. other (told_code tell parts (answer k a) old ∙ q)) in (
              ap (λ (g : Told (P × D) × B). g.0.1.0) d ∙ parts_kept tell parts (answer k a) old other,
              ap (λ (g : Told (P × D) × B). g.1) d ∙ kept k a r.0 r.1,
            );
        told_left = λ k a x s p z.
            let d = e k a x s p in
            ap (λ (g : Told (P × D) × B). g.0.1.1) d ∙ told_kept tell parts n quiet (answer k a) (before k a).0 (λ q. z (ap (λ (g : Told (P × D) × B). g.0.0) d ∙ q));
      }

module _ {K : Type 0} {A S : K → Type 0} {C : (k : K) → A k → ℕ → S k → Type 0} where
  -- a day's list
  pub by_list : {before : (k : K) → A k → ℕ × List ℕ} {after : (k : K) → S k → ℕ × List ℕ} (answer : (k : K) → A k → Answer (List Pair))
      → ((k : K) (a : A k) (x : ℕ) (s : S k) → C k a x s → ◌≡◌ {A = (ℕ × ℕ) × List ℕ} ((x, (after k s).0), (after k s).1) (gives_list (listed (answer k a) (before k a).1) (before k a).0))
      → Crosses C before after
  by_list {before} answer e =
      crosses (λ k a. told_list (listed (answer k a) (before k a).1) (before k a).0) (λ k a x s p. beside (e k a x s p)) (λ k a. list_leaves (answer k a) (before k a))

  -- a month
  pub by_month : {before : (k : K) → A k → MonthState} {after : (k : K) → S k → MonthState} (answer : (k : K) → A k → Answer Grid)
      → ((k : K) (a : A k) (x : ℕ) (s : S k) → C k a x s
      → ◌≡◌ {A = (ℕ × MonthPlaces) × (List ℕ × List ℕ)} ((x, (after k s).0), (after k s).1) (gives_month (shown (answer k a) (before k a).1.0 (before k a).1.1) (before k a).0))
      → Crosses C before after
  by_month {before} answer e =
      crosses (λ k a. told_month (shown (answer k a) (before k a).1.0 (before k a).1.1) (before k a).0) (λ k a x s p. beside (e k a x s p)) (λ k a. month_leaves (answer k a) (before k a))

  -- a search for the starts of a tithi
  pub by_starts : {before : (k : K) → A k → (ℕ × ℕ) × List Float} {after : (k : K) → S k → (ℕ × ℕ) × List Float} (n : (k : K) → A k → ℕ) (from to : (k : K) → A k → Float)
      → ((k : K) (a : A k) (x : ℕ) (s : S k) → C k a x s → ((after k s).1 ≡ starts_buffer (n k a) (from k a) (to k a) (before k a).1)
      × ◌≡◌ {A = Told (ℕ × ℕ)} (x, (after k s).0) (gives (starts_answer (n k a) (from k a) (to k a) (length (before k a).1)) (λ x. x) (before k a).0))
      → Crosses C before after
  by_starts {before} n from to e =
      crosses
      (λ k a. let g = gives (starts_answer (n k a) (from k a) (to k a) (length (before k a).1)) (λ x. x) (before k a).0 in (g.0, (g.1, starts_buffer (n k a) (from k a) (to k a) (before k a).1)))
      (λ k a x s p. let q = e k a x s p in beside (both q.1 q.0))
      (λ k a. starts_leaves (n k a) (from k a) (to k a) (before k a))

  -- a rule file that is written
  pub by_written : {before : (k : K) → A k → ℕ × List ℕ} {after : (k : K) → S k → ℕ × List ℕ} (rules : (k : K) → A k → List ℕ)
      → ((k : K) (a : A k) (x : ℕ) (s : S k) → C k a x s
      → ◌≡◌ {A = Told ℕ × List ℕ} ((x, (after k s).0), (after k s).1) (gives_written (write_into (rules k a) (before k a).1) (before k a).0))
      → Crosses C before after
  by_written {before} rules e =
      crosses (λ k a. told_written (write_into (rules k a) (before k a).1) (before k a).0) (λ k a x s p. beside (e k a x s p)) (λ k a. written_leaves (rules k a) (before k a))

  -- a rule file that is read
  pub by_read : {before : (k : K) → A k → (ℕ × ℕ) × List ℕ} {after : (k : K) → S k → (ℕ × ℕ) × List ℕ} (text : (k : K) → A k → List ℕ)
      → ((k : K) (a : A k) (x : ℕ) (s : S k) → C k a x s
      → ◌≡◌ {A = Told (ℕ × ℕ) × List ℕ} ((x, (after k s).0), (after k s).1) (gives_read (read_into (text k a) (before k a).1) (before k a).0))
      → CrossesTelling 12 C before after
  by_read {before} text e =
      by_telling line_in 12 no_line (λ k a. (read_into (text k a) (before k a).1).0) (λ n. n) (λ k a. (read_into (text k a) (before k a).1).1)
      (λ k a j h. rule_files.read_left (text k a) (before k a).1 j h) e

  -- a day's list asked by Gregorian date
  pub by_list_ad : {before : (k : K) → A k → (ℕ × (ℕ × ℕ)) × List ℕ} {after : (k : K) → S k → (ℕ × (ℕ × ℕ)) × List ℕ} (answer : (k : K) → A k → Answer (List Pair))
      → ((k : K) (a : A k) (x : ℕ) (s : S k) → C k a x s
      → ◌≡◌ {A = Told (ℕ × (ℕ × ℕ)) × List ℕ} ((x, (after k s).0), (after k s).1) (gives_list_ad (listed (answer k a) (before k a).1) (before k a).0))
      → CrossesTelling 7 C before after
  by_list_ad {before} answer e =
      by_telling days_in 7 no_days (λ k a. (listed (answer k a) (before k a).1).answer) (λ n. n) (λ k a. (listed (answer k a) (before k a).1).buffer)
      (λ k a j h. list_left (answer k a) (before k a).1 j h) e

  -- a date asked by Gregorian date, without a buffer
  pub by_days : {P X : Type 0} {before : (k : K) → A k → P × (ℕ × ℕ)} {after : (k : K) → S k → P × (ℕ × ℕ)} (answer : (k : K) → A k → Answer X) (parts : X → P)
      → ((k : K) (a : A k) (x : ℕ) (s : S k) → C k a x s → ◌≡◌ {A = Told (P × (ℕ × ℕ))} (x, after k s) (gives_told days_in (answer k a) parts (before k a)))
      → CrossesTelling {B = Unit {0}} 7 C (λ k a. (before k a, tt)) (λ k s. (after k s, tt))
  by_days answer parts e =
      by_telling days_in 7 no_days answer parts (λ k a. tt) (λ k a j h. refl) (λ k a x s p. both (e k a x s p) refl)
