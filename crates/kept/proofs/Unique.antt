-- What a contract says tells the result, its record with every number: no second result meets it. Assumes nothing.
use Prim.Native.Nat.{ℕ}
use mathlib.Core.Path.{◌≡◌, refl, sym, ap, ◌∙◌}
use mathlib.Core.List.{List, [], ◌∷◌}
use Rattle.conversion.specs.declared.Table.{Table}
use Rattle.grid.specs.declared.Month.{Month}
use Rattle.paper.proofs.Answers.{told_by_law}
use Rattle.kept.specs.declared.Kept.{Kept}
use Rattle.kept.specs.declared.After.{After}
use Rattle.kept.specs.declared.StoredYears.{StoredYears}
use Rattle.kept.specs.declared.StoredYears.TheVariants as ST
use Rattle.kept.specs.State.{State}
use Rattle.kept.specs.Operations.{Outcome, Reply, MonthReply}
use Rattle.kept.specs.Held.{record_of, Holds, StartedAs, DoneAs, AskedAs, MonthAs, stored_says}

is_record : (r : Kept) (σ : State) → Holds r σ → r ≡ record_of σ
is_record r σ h = h.ready.is ∙ ap record_of h.state

pub holds_only : (r s : Kept) (σ : State) → Holds r σ → Holds s σ → r ≡ s
holds_only r s σ h k = is_record r σ h ∙ sym (is_record s σ k)

pub started_only : (r s : After Unit) (t : Table) → StartedAs r t → StartedAs s t → r ≡ s
started_only r s t h k =
    let a = h.answer ∙ sym k.answer in
    let b = h.is ∙ sym k.is in
    λ i. record { answer = a i; state = b i }

pub done_only : (r s : After Unit) (w : Outcome) → DoneAs r w → DoneAs s w → r ≡ s
done_only r s w h k =
    let a = h.answer ∙ sym k.answer in
    let b = holds_only r.state s.state w.state h.holds k.holds in
    λ i. record { answer = a i; state = b i }

pub asked_only : (r s : After ℕ) (l m : List ℕ) (w : Reply) → AskedAs r l w → AskedAs s m w → (r ≡ s) × (l ≡ m)
asked_only r s l m w h k =
    let a = h.answer ∙ sym k.answer in
    let b = holds_only r.state s.state w.state h.holds k.holds in
    (λ i. record { answer = a i; state = b i }, h.written ∙ sym k.written)

pub month_only : (r s : After Month) (a b l m : List ℕ) (w : MonthReply) → MonthAs r a b w → MonthAs s l m w → (r ≡ s) × ((a ≡ l) × (b ≡ m))
month_only r s a b l m w h k =
    let p = h.answer ∙ sym k.answer in
    let q = holds_only r.state s.state w.state h.holds k.holds in
    (λ i. record { answer = p i; state = q i }, (h.first ∙ sym k.first, h.second ∙ sym k.second))

-- which years are stored
abbrev years_back : List ℕ → StoredYears
years_back [] = ST.Nothing
years_back (y ∷ []) = ST.One y
years_back (y ∷ z ∷ ys) = ST.Two y z

years_back_law : (r : StoredYears) → years_back (stored_says r) ≡ r
years_back_law ST.Nothing = refl
years_back_law (ST.One y) = refl
years_back_law (ST.Two y z) = refl

pub stored_only : (r s : StoredYears) → stored_says r ≡ stored_says s → r ≡ s
stored_only = told_by_law stored_says years_back years_back_law
