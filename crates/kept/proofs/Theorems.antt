-- WHAT IS KEPT holds after every sequence of operations from an answered start. Assumes nothing.
use Rattle.std.specs.Prelude.{Err, Ok}
use Prim.Native.Nat.{ℕ}
use mathlib.Core.Path.{◌≡◌, refl, ap, ◌∙◌}
use mathlib.Core.Bool.{Bool, true, false, ◌&&◌}
use mathlib.Core.List.{List, [], ◌∷◌, ◌++◌}
use native.Mathlib.Omega.{arith}
use lib.Dec.{eqb}
use lib.ListN.{length}
use Rattle.paper.specs.declared.Refusal.TheVariants.{BadTable, BadRules, NoSuchDate}
use Rattle.paper.specs.Answers.{Answer, given, then}
use Rattle.paper.proofs.Answers.{refused_answered, given_answered}
use Rattle.gregorian.specs.declared.Date.{Date}
use Rattle.gregorian.specs.Calendar.{is_date, day_number}
use Rattle.conversion.specs.declared.Table.{Table}
use Rattle.conversion.specs.declared.BsDate.{BsDate}
use Rattle.conversion.specs.Calendar.{Calendar, from_day, to_ad, from_ad}
use Rattle.conversion.specs.Flat.{accepted, flat, date}
use Rattle.conversion.proofs.Ad.{from_ad_law}
use Rattle.rules.specs.declared.Rule.{Rule}
use Rattle.rules.specs.Sky.{Sky}
use Rattle.rules.specs.Rules.{rules_of, accepted_rules}
use Rattle.rules.specs.Festivals.{Pair, Listed, listed, listOnAd}
use Rattle.rules.proofs.Lent.{lent_told}
use Rattle.festivals.specs.Kathmandu.{kathmandu}
use Rattle.festivals.specs.Answers.{on_bs, on_ad}
use Rattle.grid.specs.Month.{Shown}
use Rattle.grid.specs.Kathmandu.{month_shown}
use Rattle.kept.specs.State.{State, calendar, year_numbers, drawn, Good}
use Rattle.kept.specs.Operations.{start, outcome, with_rules, take_rules, with_row, append_row, after, row_first, ask_bs, drawn_on, ask_ad, row_first_month, ask_month, Operation, run}
use Rattle.kept.specs.Converting.{ask_to_ad, ask_from_ad}
use Rattle.kept.specs.Claims.{Leaves, Keeps}
use Rattle.kept.proofs.Fresh.{numbers_fresh}
use Rattle.kept.proofs.Goods.{good_start, good_run}
use Rattle.kept.proofs.Replies.{row_less, row_held, month_less, month_held}
use Rattle.kept.proofs.Conversions.{if_none, if_some}

-- ---- a Gregorian date whose list is answered has a BS date

then_told : {A B : Type 0} (a : Answer A) (f : A → Answer B) (x : B) → then a f ≡ Ok x → (t : A) × (a ≡ Ok t)
then_told (Ok t) f x e = (t, refl)
then_told (Err k) f x e = absurd (refused_answered refl e)

listed_told : (a : Answer (List Pair)) (out : List ℕ) (n : ℕ) → (listed a out).answer ≡ Ok n → (l : List Pair) × (a ≡ Ok l)
unfolding listed
listed_told (Ok l) out n e = (l, refl)
listed_told (Err k) out n e = absurd (refused_answered refl e)

row_told : (rows : List ℕ) (l : Listed) (out : List ℕ) (n : ℕ) → (row_first rows l out).answer ≡ Ok n → l.answer ≡ Ok n
unfolding row_first
row_told [] l out n e = absurd (refused_answered refl e)
row_told (x ∷ rows) l out n e = e

ad_dated : {I : Type 0} (s : Sky I) (c : Calendar) (rs : List Rule) (ok : Bool) (y m d : ℕ) (l : List Pair) → listOnAd s c rs ok y m d ≡ Ok l → (t : BsDate) × (from_ad c y m d ≡ Ok t)
unfolding listOnAd
ad_dated s c rs ok y m d l e =
    let p = lent_told c ok _ e in
    let q = given_answered (is_date y m d) NoSuchDate _ p.2 in
    let r = then_told (from_day c (day_number (date y m d))) _ l q.1 in
    (r.0, from_ad_law c y m d p.0 q.0 ∙ r.1)

-- ---- what an operation leaves

pub no_length : (l : List ℕ) → length l ≡ 0 → l ≡ []
no_length [] e = refl
no_length (x ∷ l) e = absurd (omega arith)

module _ (σ : State) where
  -- what is asked of the table and the rules now held
  abbrev bs : ℕ → ℕ → ℕ → List ℕ → Listed
  bs y m d out = on_bs σ.table σ.rows σ.rules y m d out

  abbrev ad : ℕ → ℕ → ℕ → List ℕ → Listed
  ad y m d out = on_ad σ.table σ.rows σ.rules y m d out

  abbrev page : Date → ℕ → ℕ → List ℕ → List ℕ → Shown
  page today y m cells festivals = month_shown σ.table σ.rows σ.rules today y m cells festivals

  -- a refusal leaves the state
  outcome_leaves : (a : Answer State) → Leaves σ (outcome σ a).answer (outcome σ a).state
  outcome_leaves (Ok τ) k e = absurd (refused_answered e refl)
  outcome_leaves (Err j) k e = refl

  after_leaves : {A : Type 0} (ys : List ℕ) (a : Answer A) → Leaves σ a (after σ ys a)
  after_leaves ys (Ok x) k e = absurd (refused_answered e refl)
  after_leaves ys (Err j) k e = refl

  -- an answer leaves its years
  after_stores : {A : Type 0} (ys : List ℕ) (a : Answer A) (x : A) → a ≡ Ok x → year_numbers (after σ ys a).stored ≡ ys
  after_stores {A} ys a x e = ap (λ (b : Answer A). year_numbers (after σ ys b).stored) e ∙ numbers_fresh (calendar σ) σ.rules ys

  row_years : (row : List ℕ) (b : Bool) → year_numbers (outcome σ (given b BadTable (Ok (with_row σ row)))).state.stored ≡ year_numbers σ.stored
  row_years row true = numbers_fresh (flat σ.table (σ.rows ++ row)) σ.rules (year_numbers σ.stored)
  row_years row false = refl

  rules_none : (xs : List ℕ) (b : Bool) → (outcome σ (given b BadRules (Ok (with_rules σ xs)))).answer ≡ Ok tt → (outcome σ (given b BadRules (Ok (with_rules σ xs)))).state.stored ≡ []
  rules_none xs true e = refl
  rules_none xs false e = absurd (refused_answered refl e)

  -- the answered list of a Gregorian date leaves the years of its BS date
  ad_stores : (y m d : ℕ) (out : List ℕ) (n : ℕ) → (ask_ad σ y m d out).listed.answer ≡ Ok n
      → (t : BsDate) × ((from_ad (calendar σ) y m d ≡ Ok t) × (year_numbers (ask_ad σ y m d out).state.stored ≡ drawn (calendar σ) t.year t.month))
  unfolding ask_ad
  ad_stores y m d out n e =
      let c = calendar σ in
      let l = listed_told (listOnAd kathmandu c (rules_of σ.rules) (accepted_rules σ.rules) y m d) out n (row_told σ.rows (ad y m d out) out n e) in
      let t = ad_dated kathmandu c (rules_of σ.rules) (accepted_rules σ.rules) y m d l.0 l.1 in
      (t.0, (t.1, after_stores (drawn_on c (from_ad c y m d)) (row_first σ.rows (ad y m d out) out).answer n e ∙ ap (drawn_on c) t.1))

  pub keeps : Good σ → Keeps σ
  unfolding take_rules append_row ask_bs ask_ad ask_month ask_to_ad ask_from_ad
  keeps g =
      let c = calendar σ in
      record {
        good = g;
        list = λ h y m d out. row_held σ.rows (λ z. h (no_length σ.rows z)) (bs y m d out) out;
        list_ad = λ h y m d out. row_held σ.rows (λ z. h (no_length σ.rows z)) (ad y m d out) out;
        month = λ h today y m cells festivals. month_held σ.rows (λ z. h (no_length σ.rows z)) (page today y m cells festivals) cells festivals;
        to_ad_law = λ h y m d. if_some σ.rows (to_ad c y m d) (λ z. h (no_length σ.rows z));
        to_bs = λ h y m d. if_some σ.rows (from_ad c y m d) (λ z. h (no_length σ.rows z));
        no_row = λ h y m d out. row_less σ.rows (ap length h) (bs y m d out) out;
        no_row_ad = λ h y m d out. row_less σ.rows (ap length h) (ad y m d out) out;
        no_row_month = λ h today y m cells festivals. month_less σ.rows (ap length h) (page today y m cells festivals) cells festivals;
        no_row_to_ad = λ h y m d. if_none σ.rows (to_ad c y m d) (ap length h);
        no_row_to_bs = λ h y m d. if_none σ.rows (from_ad c y m d) (ap length h);
        list_stores = λ y m d out n e. after_stores (drawn c y m) (row_first σ.rows (bs y m d out) out).answer n e;
        list_ad_stores = ad_stores;
        month_stores = λ today y m cells festivals x e. after_stores (drawn c y m) (row_first_month σ.rows (page today y m cells festivals) cells festivals).answer x e;
        row_keeps = λ row. row_years row _;
        rules_empty = λ xs e. rules_none xs _ e;
        forget_empties = refl;
        rules_refused = λ xs. outcome_leaves (given (accepted_rules xs) BadRules (Ok (with_rules σ xs)));
        row_refused = λ row. outcome_leaves (given (eqb (length row) 13 && accepted σ.table (σ.rows ++ row)) BadTable (Ok (with_row σ row)));
        list_refused = λ y m d out. after_leaves (drawn c y m) (row_first σ.rows (bs y m d out) out).answer;
        list_ad_refused = λ y m d out. after_leaves (drawn_on c (from_ad c y m d)) (row_first σ.rows (ad y m d out) out).answer;
        month_refused = λ today y m cells festivals. after_leaves (drawn c y m) (row_first_month σ.rows (page today y m cells festivals) cells festivals).answer;
      }

-- AFTER ANY SEQUENCE of operations from an answered start
pub always : (t : Table) (σ : State) → start t ≡ Ok σ → (os : List Operation) → Keeps (run σ os)
always t σ e os = keeps (run σ os) (good_run σ (good_start t σ e) os)
