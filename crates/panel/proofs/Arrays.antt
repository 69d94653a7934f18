-- What the calls over an array do, from what the calls over its state do. Assumes nothing.
use Rattle.std.specs.Prelude.{Err, Ok}
use Prim.Native.Nat.{ℕ, ◌≤◌, ◌<◌}
use mathlib.Core.Path.{◌≡◌, refl, sym, ap, ◌∙◌, subst}
use mathlib.Core.Bool.{Bool, true, false}
use mathlib.Core.List.{List}
use native.Mathlib.Omega.{arith}
use borrow.Author.Tests.{le-leb, lt-leb, ltb-true, ltb-false}
use lib.Dec.{leb, ltb}
use lib.ListN.{length}
use Rattle.paper.specs.declared.Refusal.{Refusal}
use Rattle.paper.specs.declared.Refusal.TheVariants.{BadTable, NoRoom}
use Rattle.paper.specs.Answers.{Answer, given, then}
use Rattle.paper.specs.Refusals.{number}
use Rattle.paper.proofs.Answers.{refused_answered}
use Rattle.conversion.specs.declared.Table.{Table}
use Rattle.grid.specs.declared.Month.{Month}
use Rattle.kept.specs.declared.Kept.{Kept}
use Rattle.kept.specs.declared.After.{After}
use Rattle.kept.specs.State.{State, startable}
use Rattle.kept.specs.Operations.{blank, start, Outcome, Reply, MonthReply}
use Rattle.kept.specs.Held.{held, Ready, Holds, DoneAs, AskedAs, MonthAs}
use Rattle.kept.specs.Converting.{TableHeld}
use Rattle.shelf.specs.Numbers.{laid, Made}
use Rattle.shelf.specs.Inner.{kept_of, placed, table_of, rows_of}
use Rattle.panel.specs.Boundary.{code, gives, MonthPlaces, month_numbers}
use Rattle.panel.specs.Keeping.{Keeping, written, start_in, kept_done, on_array, kept_month, placed_by}
use Rattle.shelf.proofs.Made.{made_holds, made_table, made_rows, put_laid}
use Rattle.panel.proofs.Handing.{both}

-- ---- the two cases of an array

module _ {B : Type 0} {a : List ℕ} {n : ℕ} {before : B} {on : State → ℕ × B} where
  -- one that is too short
  pub refuses : true ≡ ltb (length a) 4488 → n ≡ number NoRoom → Keeping a n before before on
  refuses h e = let s = ltb-true (length a) 4488 (sym h) in record { short = λ z. both e refl; made = λ σ m. absurd (omega (arith, m.room)) }

  -- one with room
  pub answers : {after : B} → false ≡ ltb (length a) 4488 → ((σ : State) → Made a σ → ◌≡◌ {A = ℕ × B} (n, after) (on σ)) → Keeping a n before after on
  answers h e = let s = ltb-false (length a) 4488 (sym h) in record { short = λ z. absurd (omega arith); made = e }

-- what a call over the record promises of the state that the array holds
pub of_made : {a : List ℕ} {σ : State} {k : Kept} (P : State → Type 0) → Made a σ → k ≡ kept_of a → (Ready k → P (held k)) → P σ
of_made {a} {σ} {k} P m e f =
    let h : Holds k σ = rw e (made_holds a σ m) in
    subst P h.state (f h.ready)

-- what a call over a table and its rows promises of those of the state that the array holds
moved : {t u : Table} {l n : List ℕ} (P : Table → List ℕ → Type 0) → t ≡ u → l ≡ n → (TableHeld t l → P t l) → TableHeld u n → P u n
moved {t} {n = n} P e g f = subst (λ (v : Table). TableHeld v n → P v n) e (subst (λ (k : List ℕ). TableHeld t k → P t k) g f)

pub of_table : {a : List ℕ} {σ : State} {t : Table} {rows : List ℕ} (P : Table → List ℕ → Type 0) → Made a σ → t ≡ table_of a → rows ≡ rows_of a → (TableHeld t rows → P t rows)
    → P σ.table σ.rows
of_table {a} {σ} P m p q f = moved P (p ∙ made_table a σ m) (q ∙ made_rows a σ m) f m.good.table

-- an array with the record of a state has the state
placed_written : {A : Type 0} (x : Answer A) (k : Kept) (σ : State) (a : List ℕ) → Holds k σ → 4488 ≤ length a → placed_by x k a ≡ written a σ x
placed_written (Ok v) k σ a h n = put_laid a σ k h n
placed_written (Err j) k σ a h n = refl

-- the same by another name of the answer
placed_as : {A : Type 0} {x y : Answer A} {k : Kept} (σ : State) (a : List ℕ) → Holds k σ → 4488 ≤ length a → x ≡ y → placed_by x k a ≡ written a σ y
placed_as {x = x} {k = k} σ a h n e = placed_written x k σ a h n ∙ ap (written a σ) e

-- ---- a start

-- whether there is a state
abbrev yes : Answer Unit
yes = Ok tt

abbrev whether : Answer State → Answer Unit
whether s = then s (λ σ. Ok tt)

-- the same, where the array has room
abbrev roomy : List ℕ → Answer State → Answer State
roomy a s = then s (λ σ. given (leb 4488 (length a)) NoRoom (Ok σ))

-- where the table is good the array decides
room_next : (b : Bool) (τ : State) (a : List ℕ) → yes ≡ whether (given b BadTable (Ok τ)) → roomy a (given b BadTable (Ok τ)) ≡ given (leb 4488 (length a)) NoRoom (Ok τ)
room_next true τ a e = refl
room_next false τ a e = absurd (refused_answered refl (sym e))

-- where it is not, that is what is refused
no_next : (b : Bool) (τ : State) (a : List ℕ) (k : Refusal) → Err k ≡ whether (given b BadTable (Ok τ)) → roomy a (given b BadTable (Ok τ)) ≡ Err k
no_next true τ a k e = absurd (refused_answered (sym e) refl)
no_next false τ a k e = cc

module _ (t : Table) (a : List ℕ) where
  pub not_started : (k : Refusal) {n : ℕ} → Err k ≡ whether (start t) → n ≡ number k → (n, a) ≡ gives (start_in t a) (laid a) a
  unfolding start_in start
  not_started k e c = rw (no_next (startable t) (blank t) a k e) (both c refl)

  pub started_short : {n : ℕ} → yes ≡ whether (start t) → length a < 4488 → n ≡ number NoRoom → (n, a) ≡ gives (start_in t a) (laid a) a
  unfolding start_in start
  started_short e h c = rw (room_next (startable t) (blank t) a e, lt-leb 4488 (length a) h) (both c refl)

  pub started : {after : List ℕ} (k : Kept) → yes ≡ whether (start t) → Holds k (blank t) → 4488 ≤ length a → after ≡ placed k a → (0, after) ≡ gives (start_in t a) (laid a) a
  unfolding start_in start
  started k e w h p = rw (room_next (startable t) (blank t) a e, le-leb 4488 (length a) h) (both refl (p ∙ put_laid a (blank t) k w h))

-- ---- what each kind of call hands over, from what it asks of the record of the array

module _ {a : List ℕ} {σ : State} {k : Kept} (m : Made a σ) (read : k ≡ kept_of a) where
  pub handed_done : {n : ℕ} {after : List ℕ} (r : After Unit) (does : State → Outcome) → (Ready k → DoneAs r (does (held k))) → n ≡ code r.answer
      → after ≡ placed_by r.answer r.state a → ◌≡◌ {A = ℕ × List ℕ} (n, after) (kept_done a (does σ))
  handed_done r does f c p =
      let h = of_made (λ (τ : State). DoneAs r (does τ)) m read f in
      both (c ∙ ap code h.answer) (p ∙ placed_as (does σ).state a h.holds m.room h.answer)

  -- a day's list, whose answer `tells` the number and the places
  pub handed_list : {P : Type 0} {n : ℕ} {places : P} {buffer after : List ℕ} (tells : Answer ℕ → ℕ × P) (r : After ℕ) (asks : State → Reply) → (Ready k → AskedAs r buffer (asks (held k)))
      → (n, places) ≡ tells r.answer → after ≡ placed_by r.answer r.state a
      → ◌≡◌ {A = ℕ × (P × (List ℕ × List ℕ))} (n, (places, (buffer, after))) (on_array a (asks σ).state (asks σ).listed.answer (tells (asks σ).listed.answer, (asks σ).listed.buffer))
  handed_list {buffer = buffer} tells r asks f g p =
      let h = of_made (λ (τ : State). AskedAs r buffer (asks τ)) m read f in
      let e = g ∙ ap tells h.answer in
      let q = p ∙ placed_as (asks σ).state a h.holds m.room h.answer in
      λ i. ((e i).0, ((e i).1, (h.written i, q i)))

  pub handed_month : {n : ℕ} {places : MonthPlaces} {cells festivals after : List ℕ} (r : After Month) (asks : State → MonthReply) (old : MonthPlaces)
      → (Ready k → MonthAs r cells festivals (asks (held k))) → (n, places) ≡ gives r.answer month_numbers old → after ≡ placed_by r.answer r.state a
      → ◌≡◌ {A = ℕ × (MonthPlaces × ((List ℕ × List ℕ) × List ℕ))} (n, (places, ((cells, festivals), after))) (kept_month a (asks σ) old)
  handed_month {cells = cells} {festivals} r asks old f g p =
      let h = of_made (λ (τ : State). MonthAs r cells festivals (asks τ)) m read f in
      let e = g ∙ ap (λ (x : Answer Month). gives x month_numbers old) h.answer in
      let q = p ∙ placed_as (asks σ).state a h.holds m.room h.answer in
      λ i. ((e i).0, ((e i).1, ((h.first i, h.second i), q i)))
