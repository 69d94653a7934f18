-- What an answer says tells the answer: so no second answer meets a contract. Assumes nothing.
use mathlib.Core.Path.{◌≡◌, sym, ◌∙◌}
use mathlib.Core.List.{List}
use Prim.Native.Nat.{ℕ}
use Rattle.paper.specs.Answers.{Answer}
use Rattle.grid.specs.declared.Month.{Month}
use Rattle.grid.specs.Month.{Shown}

-- an answer and the two buffers meet the contract of `month_grid`, whose definition gives w
abbrev Meets : Shown → Answer Month → List ℕ → List ℕ → Type 0
Meets w r cells festivals = (r ≡ w.answer) × ((cells ≡ w.cells) × (festivals ≡ w.festivals))

-- NO SECOND ANSWER: two answers, and two states of each buffer, that meet the contract are equal
pub one_month : (w : Shown) (r s : Answer Month) (cells festivals cells' festivals' : List ℕ) → Meets w r cells festivals → Meets w s cells' festivals'
    → (r ≡ s) × ((cells ≡ cells') × (festivals ≡ festivals'))
one_month w r s cells festivals cells' festivals' p q =
    (p.0 ∙ sym q.0, (p.1.0 ∙ sym q.1.0, p.1.1 ∙ sym q.1.1))
