-- A SEQUENCE OF CALLS over a kept array: an answered start leaves the blank state in it, each further call the state after its operation, and a refused call the
-- state that it held. So the array holds, after any sequence, the state that kept's `run` gives, of which `always` says what is kept. Assumes nothing.
use Rattle.std.specs.Prelude.{Err, Ok}
use Prim.Native.Nat.{ℕ}
use mathlib.Core.Path.{◌≡◌, refl, sym, ap, ◌∙◌, subst⁻¹}
use mathlib.Core.Bool.{true}
use mathlib.Core.List.{List, [], ◌∷◌}
use borrow.Author.Tests.{leb-true}
use lib.Dec.{leb}
use lib.ListN.{length}
use Rattle.paper.specs.declared.Refusal.TheVariants.{NoRoom}
use Rattle.paper.specs.Answers.{Answer, given, then}
use Rattle.paper.proofs.Answers.{refused_answered, given_answered}
use Rattle.conversion.specs.declared.Table.{Table}
use Rattle.conversion.specs.Flat.{date}
use Rattle.kept.specs.State.{State, Good}
use Rattle.kept.specs.Operations.{start, Operation, take, append, forget, asked_bs, asked_ad, asked_month, next, run}
use Rattle.kept.specs.Claims.{Leaves, Keeps}
use Rattle.kept.proofs.Goods.{good_start, good_run}
use Rattle.kept.proofs.Theorems.{keeps, always}
use Rattle.shelf.specs.Numbers.{laid, Made}
use Rattle.panel.specs.Boundary.{gives, table}
use Rattle.panel.specs.Lent.{month}
use Rattle.panel.specs.Keeping.{written, start_in}
use Rattle.panel.specs.Claims.{Carries, Calls, none, call}
use Rattle.shelf.proofs.Made.{laid_made}
use Rattle.panel.proofs.Crossing.{Told, zero_answered, gives_code}
use Rattle.panel.proofs.keeping.panel_kept_start.Reads as Start
use Rattle.panel.proofs.keeping.panel_kept_take_rules.Reads as TakeRules
use Rattle.panel.proofs.keeping.panel_kept_append_row.Reads as AppendRow
use Rattle.panel.proofs.keeping.panel_kept_forget.Reads as Forget
use Rattle.panel.proofs.kept_lists.panel_kept_festivals_on.Reads as FestivalsOn
use Rattle.panel.proofs.kept_lists.panel_kept_festivals_on_ad.Reads as FestivalsOnAd
use Rattle.panel.proofs.kept_months.panel_kept_month_grid.Reads as MonthGrid

-- ---- a start

-- an array that is started has room, and the table is good
started_by : (s : Answer State) (a : List ℕ) (σ : State) → then s (λ τ. given (leb 4488 (length a)) NoRoom (Ok τ)) ≡ Ok σ → (s ≡ Ok σ) × (leb 4488 (length a) ≡ true)
started_by (Ok τ) a σ e = let p = given_answered (leb 4488 (length a)) NoRoom (Ok τ) e in (p.1, p.0)
started_by (Err k) a σ e = absurd (refused_answered refl e)

made_by_start : (t : Table) (a after : List ℕ) → (0, after) ≡ gives (start_in t a) (laid a) a → (σ : State) × ((start t ≡ Ok σ) × Made after σ)
unfolding start_in
made_by_start t a after e =
    let z = zero_answered (start_in t a) (sym (ap (λ (x : Told (List ℕ)). x.0) e ∙ gives_code (start_in t a) (laid a) a)) in
    let s = started_by (start t) a z.0 z.1 in
    let l : after ≡ laid a z.0 = ap (λ (x : Told (List ℕ)). x.1) e ∙ ap (λ (x : Answer State). (gives x (laid a) a).1) z.1 in
    (z.0, (s.0, subst⁻¹ (λ (x : List ℕ). Made x z.0) l (laid_made a z.0 (good_start t z.0 s.0) (leb-true 4488 (length a) s.1))))

pub started : (k : _) (a : _) (s : _) → Start.Learnt k a 0 s → (σ : State) × ((start (table a.0 a.1.0 a.1.1.0 a.1.1.1.0) ≡ Ok σ) × Made s.1.1.1.1.0.now σ)
started k a s p = made_by_start _ _ _ p

-- ---- the other calls

good_next : (σ : State) → Good σ → (o : Operation) → Good (next σ o)
unfolding run
good_next σ g o = good_run σ g (o ∷ [])

-- an array after an answer, which has its state, or after a refusal, which leaves the state
carried : {A : Type 0} {a after : List ℕ} {σ τ : State} {x : Answer A} → Made a σ → Good τ → Leaves σ x τ → after ≡ written a τ x → Made after τ
carried {a = a} {τ = τ} {x = Ok v} m g f e = rw e (laid_made a τ g m.room)
carried {a = a} {τ = τ} {x = Err k} m g f e = rw (e, f k refl) m

pub take_rules_law : Carries TakeRules.Learnt (λ k a. a.0.now) (λ k s. s.0.now) (λ k a. take a.1.0.now)
unfolding next
take_rules_law k a x s p σ m =
    carried m (good_next σ m.good (take a.1.0.now)) ((keeps σ m.good).rules_refused a.1.0.now) (ap (λ (z : Told (List ℕ)). z.1) (p.made σ m))

pub append_row_law : Carries AppendRow.Learnt (λ k a. a.0.now) (λ k s. s.0.now) (λ k a. append a.1.0.now)
unfolding next
append_row_law k a x s p σ m =
    carried m (good_next σ m.good (append a.1.0.now)) ((keeps σ m.good).row_refused a.1.0.now) (ap (λ (z : Told (List ℕ)). z.1) (p.made σ m))

pub forgets : Carries Forget.Learnt (λ k a. a.0.now) (λ k s. s.0.now) (λ k a. forget)
unfolding next
forgets k a x s p σ m = rw (ap (λ (z : Told (List ℕ)). z.1) (p.made σ m)) (laid_made a.0.now (next σ forget) (good_next σ m.good forget) m.room)

pub festivals_on : Carries FestivalsOn.Learnt (λ k a. a.0.now) (λ k s. s.0.now) (λ k a. asked_bs a.1.0 a.1.1.0 a.1.1.1.0 a.1.1.1.1.0.now)
unfolding next
festivals_on k a x s p σ m =
    carried m (good_next σ m.good (asked_bs a.1.0 a.1.1.0 a.1.1.1.0 a.1.1.1.1.0.now)) ((keeps σ m.good).list_refused a.1.0 a.1.1.0 a.1.1.1.0 a.1.1.1.1.0.now)
    (ap (λ z. z.1.1.1) (p.made σ m))

pub festivals_on_ad : Carries FestivalsOnAd.Learnt (λ k a. a.0.now) (λ k s. s.0.now) (λ k a. asked_ad a.1.0 a.1.1.0 a.1.1.1.0 a.1.1.1.1.0.now)
unfolding next
festivals_on_ad k a x s p σ m =
    carried m (good_next σ m.good (asked_ad a.1.0 a.1.1.0 a.1.1.1.0 a.1.1.1.1.0.now)) ((keeps σ m.good).list_ad_refused a.1.0 a.1.1.0 a.1.1.1.0 a.1.1.1.1.0.now)
    (ap (λ z. z.1.1.1) (p.made σ m))

pub month_grid_law : Carries MonthGrid.Learnt (λ k a. a.0.now) (λ k s. s.0.now)
    (λ k a. let b = month a.1.1.1.1.1.1 in asked_month (date a.1.0 a.1.1.0 a.1.1.1.0) a.1.1.1.1.0 a.1.1.1.1.1.0 b.1.0 b.1.1)
unfolding next
month_grid_law k a x s p σ m =
    let b = month a.1.1.1.1.1.1 in
    let today = date a.1.0 a.1.1.0 a.1.1.1.0 in
    carried m (good_next σ m.good (asked_month today a.1.1.1.1.0 a.1.1.1.1.1.0 b.1.0 b.1.1)) ((keeps σ m.good).month_refused today a.1.1.1.1.0 a.1.1.1.1.1.0 b.1.0 b.1.1)
    (ap (λ z. z.1.1.1) (p.made σ m))

-- ---- a sequence

pub carries_on : {a b : List ℕ} {os : List Operation} → Calls a os b → (σ : State) → Made a σ → Made b (run σ os)
unfolding run
carries_on none σ m = m
carries_on (call {o = o} f r) σ m = carries_on r (next σ o) (f σ m)

-- THE ARRAY AFTER ANY SEQUENCE of calls from an answered start holds what the state keeps
pub sequence : (t : Table) (σ : State) → start t ≡ Ok σ → {a b : List ℕ} {os : List Operation} → Made a σ → Calls a os b → Made b (run σ os) × Keeps (run σ os)
sequence t σ e {os = os} m r = (carries_on r σ m, always t σ e os)
