-- Each operation makes a good state of a good one. Assumes nothing.
use Rattle.std.specs.Prelude.{Err, Ok}
use Prim.Native.Nat.{ℕ, ◌≤◌}
use mathlib.Core.Path.{◌≡◌, refl, sym, ap, ◌∙◌}
use mathlib.Core.Bool.{Bool, true, false}
use mathlib.Core.List.{List, [], ◌∷◌, ◌++◌}
use mathlib.Core.Logic.{inl, inr}
use native.Mathlib.Omega.{arith}
use borrow.Author.Tests.{leb-true}
use lib.Dec.{leb, eqb}
use lib.ListN.{length, length-append}
use Rattle.paper.specs.declared.Refusal.{Refusal}
use Rattle.paper.specs.declared.Refusal.TheVariants.{BadTable, BadRules}
use Rattle.paper.specs.Answers.{Answer, given}
use Rattle.paper.proofs.Answers.{answered_same, given_answered}
use Rattle.paper.proofs.Tests.{and_left, and_right}
use Rattle.gregorian.specs.declared.Date.{Date}
use Rattle.conversion.specs.declared.Table.{Table}
use Rattle.conversion.specs.declared.BsDate.{BsDate}
use Rattle.conversion.specs.Calendar.{from_ad}
use Rattle.conversion.specs.Flat.{accepted, flat}
use Rattle.rules.specs.Rules.{all_good, count_kind, accepted_rules}
use Rattle.festivals.specs.Answers.{on_bs, on_ad}
use Rattle.grid.specs.Kathmandu.{month_shown}
use Rattle.kept.specs.State.{State, calendar, year_numbers, among, following, drawn, startable, Good}
use Rattle.kept.specs.Operations.{blank, start, outcome, with_rules, take_rules, with_row, append_row, with_years, forgotten, after, row_first, drawn_on, ask_bs, ask_ad, row_first_month, ask_month, Operation, take, append, forget, asked_bs, asked_ad, asked_month, next, run}
use Rattle.kept.proofs.Fresh.{numbers_fresh, fresh_anew, drawn_among, drawn_follow, among_longer}

no_rules : accepted_rules [] ≡ true
unfolding accepted_rules all_good count_kind
no_rules = refl

-- a table that may be started has a first year from 1 on
pub first_from_law : (t : Table) → startable t ≡ true → 1 ≤ t.first_year
unfolding startable
first_from_law t e = leb-true _ _ (and_left (leb 1 t.first_year) _ e)

-- ---- start

pub good_blank : (t : Table) → startable t ≡ true → Good (blank t)
good_blank t e = record { start = e; table = inl refl; rules = no_rules; stored = refl; in_table = refl; follow = refl }

pub good_start : (t : Table) (σ : State) → start t ≡ Ok σ → Good σ
unfolding start
good_start t σ e =
    let g = given_answered (startable t) BadTable _ e in
    rw (← answered_same g.1) (good_blank t g.0)

-- ---- each operation

module _ (σ : State) (g : Good σ) where
  -- what an operation that is given under a test makes of a good state
  good_outcome : (b : Bool) (k : Refusal) (τ : State) → (b ≡ true → Good τ) → Good (outcome σ (given b k (Ok τ))).state
  good_outcome true k τ h = h refl
  good_outcome false k τ h = g

  pub good_rules : (xs : List ℕ) → accepted_rules xs ≡ true → Good (with_rules σ xs)
  good_rules xs e = record { start = g.start; table = g.table; rules = e; stored = refl; in_table = refl; follow = refl }

  pub good_take : (xs : List ℕ) → Good (take_rules σ xs).state
  unfolding take_rules
  good_take xs = good_outcome (accepted_rules xs) BadRules _ (good_rules xs)

  -- the stored years are those of the longer table: they were worked out with it
  pub good_row : (row : List ℕ) → accepted σ.table (σ.rows ++ row) ≡ true → Good (with_row σ row)
  good_row row e =
      let c = flat σ.table (σ.rows ++ row) in
      let ys = year_numbers σ.stored in
      let same = sym (numbers_fresh c σ.rules ys) in
      record {
        start = g.start;
        table = inr e;
        rules = g.rules;
        stored = fresh_anew c σ.rules ys;
        in_table = ap (among c) (sym same) ∙ among_longer (calendar σ) c refl (omega (arith, length-append σ.rows row)) ys g.in_table;
        follow = ap following (sym same) ∙ g.follow;
      }

  pub good_append : (row : List ℕ) → Good (append_row σ row).state
  unfolding append_row
  good_append row = good_outcome _ BadTable _ (λ e. good_row row (and_right (eqb (length row) 13) _ e))

  good_years : (ys : List ℕ) → among (calendar σ) ys ≡ true → following ys ≡ true → Good (with_years σ ys)
  good_years ys a b =
      let same = numbers_fresh (calendar σ) σ.rules ys in
      record {
        start = g.start;
        table = g.table;
        rules = g.rules;
        stored = fresh_anew (calendar σ) σ.rules ys;
        in_table = ap (among (calendar σ)) same ∙ a;
        follow = ap following same ∙ b;
      }

  pub good_forgotten : Good (forgotten σ)
  good_forgotten = good_years [] refl refl

  pub good_drawn : (y m : ℕ) → Good (with_years σ (drawn (calendar σ) y m))
  good_drawn y m = good_years (drawn (calendar σ) y m) (drawn_among (calendar σ) y m) (drawn_follow (calendar σ) (first_from_law σ.table g.start) y m)

  pub good_on : (a : Answer BsDate) → Good (with_years σ (drawn_on (calendar σ) a))
  good_on (Ok t) = good_drawn t.year t.month
  good_on (Err k) = good_forgotten

  good_after : {A : Type 0} (ys : List ℕ) → Good (with_years σ ys) → (a : Answer A) → Good (after σ ys a)
  good_after ys h (Ok x) = h
  good_after ys h (Err k) = g

  good_bs : (y m d : ℕ) (out : List ℕ) → Good (ask_bs σ y m d out).state
  unfolding ask_bs
  good_bs y m d out = good_after (drawn (calendar σ) y m) (good_drawn y m) (row_first σ.rows (on_bs σ.table σ.rows σ.rules y m d out) out).answer

  good_ad : (y m d : ℕ) (out : List ℕ) → Good (ask_ad σ y m d out).state
  unfolding ask_ad
  good_ad y m d out =
      good_after (drawn_on (calendar σ) (from_ad (calendar σ) y m d)) (good_on (from_ad (calendar σ) y m d))
      (row_first σ.rows (on_ad σ.table σ.rows σ.rules y m d out) out).answer

  good_month : (today : Date) (y m : ℕ) (cells festivals : List ℕ) → Good (ask_month σ today y m cells festivals).state
  unfolding ask_month
  good_month today y m cells festivals =
      good_after (drawn (calendar σ) y m) (good_drawn y m)
      (row_first_month σ.rows (month_shown σ.table σ.rows σ.rules today y m cells festivals) cells festivals).answer

  good_next : (o : Operation) → Good (next σ o)
  unfolding next
  good_next (take xs) = good_take xs
  good_next (append row) = good_append row
  good_next forget = good_forgotten
  good_next (asked_bs y m d out) = good_bs y m d out
  good_next (asked_ad y m d out) = good_ad y m d out
  good_next (asked_month today y m cells festivals) = good_month today y m cells festivals

-- ---- any sequence

pub good_run : (σ : State) → Good σ → (os : List Operation) → Good (run σ os)
unfolding run
good_run σ g [] = g
good_run σ g (o ∷ os) = good_run (next σ o) (good_next σ g o) os
