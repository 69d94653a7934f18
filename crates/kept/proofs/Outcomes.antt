-- Starting, taking rules and appending a row, case by case. Assumes nothing.
use Rattle.std.specs.Prelude.{Err, Ok}
use Prim.Native.Nat.{ℕ, ◌<◌}
use mathlib.Core.Path.{◌≡◌, refl, sym, ap, ◌∙◌}
use mathlib.Core.Bool.{Bool, true, false, ◌&&◌, and-false, true≢false}
use mathlib.Core.List.{List, [], ◌++◌}
use native.Mathlib.Nat.{sub-zero}
use native.Mathlib.Omega.{arith}
use borrow.Author.Tests.{eq-eqb, ne_eqb}
use lib.Dec.{leb, eqb}
use lib.ListN.{length, replicate, length-append}
use Rattle.paper.specs.declared.Refusal.{Refusal}
use Rattle.paper.specs.declared.Refusal.TheVariants.{BadTable, BadRules}
use Rattle.paper.specs.Answers.{Answer, given, then}
use Rattle.paper.proofs.Answers.{given_on, given_told, given_refused}
use Rattle.paper.proofs.Tests.{and_left, and_right}
use Rattle.conversion.specs.declared.Table.{Table}
use Rattle.gregorian.specs.Answers.{real, number_answer}
use Rattle.conversion.specs.Flat.{first_day, accepted, flat}
use Rattle.conversion.proofs.Accepted.{from_1901, to_2099, accepted_not}
use Rattle.rules.specs.Rules.{accepted_rules}
use Rattle.rules.specs.Lent.{accepting}
use Rattle.rules.proofs.Lent.{lent_not}
use Rattle.kept.specs.declared.Store.{Store}
use Rattle.kept.specs.declared.Kept.{Kept}
use Rattle.kept.specs.State.{State, startable}
use Rattle.kept.specs.Operations.{blank, start, Outcome, outcome, with_rules, take_rules, with_row, append_row}
use Rattle.kept.specs.Inner.{done, HoldsAnswer, appending}
use Rattle.kept.specs.Held.{held, padded, store_of, record_of, Ready, DoneAs}

-- ---- start

module _ (t : Table) where
  abbrev year_fits : Bool
  year_fits = leb 1 t.first_year && leb t.first_year 3000

  pub no_year : false ≡ year_fits → false ≡ startable t
  unfolding startable
  no_year e = go (leb 1 t.first_year) (leb t.first_year 3000) _ e
    where
      go : (a b c : Bool) → false ≡ (a && b) → false ≡ (a && (b && c))
      go true false c e = refl
      go false b c e = refl
      go true true c e = absurd (true≢false (sym e))

  module _ (e : true ≡ year_fits) where
    pub no_day : (k : Refusal) → Err k ≡ number_answer (first_day t) → false ≡ startable t
    unfolding startable
    no_day k q = rw (and_left (leb 1 t.first_year) _ (sym e), and_right (leb 1 t.first_year) _ (sym e), (given_refused (real (first_day t)) _ _ _ q).0) refl

    pub start_test : (n : ℕ) → Ok n ≡ number_answer (first_day t) → (leb 2415386 n && leb n 2488069) ≡ startable t
    unfolding startable
    start_test n q =
        let g = given_told (real (first_day t)) _ _ n q in
        rw (g.1, and_left (leb 1 t.first_year) _ (sym e), and_right (leb 1 t.first_year) _ (sym e), g.0, from_1901, to_2099) refl

module _ (t : Table) where
  pub started : startable t ≡ true → ◌≡◌ {A = Answer Unit} (Ok tt) (then (start t) (λ σ. Ok tt))
  unfolding start
  started e = rw e

  pub not_started : startable t ≡ false → ◌≡◌ {A = Answer Unit} (Err BadTable) (then (start t) (λ σ. Ok tt))
  unfolding start
  not_started e = rw e

zeros_alone : (n : ℕ) → replicate n 0 ≡ padded n []
zeros_alone n = ap (λ (k : ℕ). replicate k 0) (sym (sub-zero n))

pub blank_record : (t : Table) (s : Store) → s ≡ store_of []
    → record { table = t; rows = replicate 1664 0; row_len = 0; rules = replicate 2560 0; rule_len = 0; store = s } ≡ record_of (blank t)
blank_record t s e = λ i. record { table = t; rows = zeros_alone 1664 i; row_len = 0; rules = zeros_alone 2560 i; rule_len = 0; store = e i }

-- ---- take, append

abbrev did : State → Outcome
did τ = record { answer = Ok tt; state = τ }

-- the state after an operation, and the record after it
pub done_as : (k : Kept) → Ready k → (r : Answer Kept) (a : Answer State) → HoldsAnswer r a → DoneAs (done k r) (outcome (held k) a)
done_as k w (Ok m) (Ok σ) h = record { answer = refl; holds = h }
done_as k w (Err e) (Err f) h = record { answer = ap Err h; holds = record { state = refl; ready = w } }
done_as k w (Ok m) (Err f) h = absurd h
done_as k w (Err e) (Ok σ) h = absurd h

-- the same refusal
pub same_refusal : {r : Answer Kept} {a : Answer State} {k : Refusal} → r ≡ Err k → a ≡ Err k → HoldsAnswer r a
same_refusal p q = rw (p, q) refl

module _ (σ : State) (xs : List ℕ) where
  pub taken : accepted_rules xs ≡ true → take_rules σ xs ≡ did (with_rules σ xs)
  unfolding take_rules
  taken e = rw e

module _ (σ : State) (row : List ℕ) where
  row_test : (b : Bool) → (eqb (length row) 13 && accepted σ.table (σ.rows ++ row)) ≡ b → appending σ row ≡ given b BadTable (Ok (with_row σ row))
  unfolding appending
  row_test b e = rw e

  pub row_taken : length row ≡ 13 → accepted σ.table (σ.rows ++ row) ≡ true → appending σ row ≡ Ok (with_row σ row)
  row_taken l g = row_test true (simp (eq-eqb (length row) 13 l, g))

  pub appended : length row ≡ 13 → accepted σ.table (σ.rows ++ row) ≡ true → append_row σ row ≡ did (with_row σ row)
  unfolding append_row appending
  appended l g = ap (outcome σ) (row_taken l g)

  not_accepted : accepted σ.table (σ.rows ++ row) ≡ false → appending σ row ≡ Err BadTable
  not_accepted g = row_test false (simp (g, and-false))

  -- a row of other than thirteen numbers
  pub other_length : (length row ≡ 13 → ⊥) → appending σ row ≡ Err BadTable
  other_length l = row_test false (simp (ne_eqb (length row) 13 l))

  -- a row more than there may be
  pub no_place : length row ≡ 13 → 1651 < length σ.rows → appending σ row ≡ Err BadTable
  no_place l h =
      not_accepted (accepted_not σ.table (σ.rows ++ row) (λ f. omega (arith, f.frame.whole, f.frame.few, length-append σ.rows row)))

  -- a table that is not accepted with the row
  pub not_appended : length row ≡ 13 → accepted_rules σ.rules ≡ true → (list rules : List ℕ) → list ≡ σ.rows ++ row → rules ≡ σ.rules
      → (k : Refusal) → Err k ≡ accepting (flat σ.table list) (accepted_rules rules) → appending σ row ≡ Err k
  not_appended l o list rules p q k z =
      let e = z ∙ ap (λ (x : List ℕ). accepting (flat σ.table x) (accepted_rules rules)) p ∙ ap (λ (x : List ℕ). accepting (flat σ.table (σ.rows ++ row)) (accepted_rules x)) q in
      let g = lent_not (flat σ.table (σ.rows ++ row)) (accepted_rules σ.rules) (Ok (with_row σ row)) k e in
      let t : (eqb (length row) 13 && accepted σ.table (σ.rows ++ row)) ≡ accepted σ.table (σ.rows ++ row) = simp (eq-eqb (length row) 13 l) in
      row_test _ t
      ∙ ap (given (accepted σ.table (σ.rows ++ row)) BadTable) (sym (given_on (accepted_rules σ.rules) BadRules _ o)) ∙ g
