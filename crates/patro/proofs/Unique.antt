-- What is said of a page tells the answer: so no second answer meets the contract. Assumes nothing.
use Prim.Native.Nat.{ℕ}
use mathlib.Core.Path.{◌≡◌, refl, sym, ◌∙◌}
use mathlib.Core.List.{List}
use Rattle.paper.specs.Answers.{Answer}
use Rattle.patro.specs.Pages.{Laying, Lays}

-- NO SECOND ANSWER: two answers, and two states of the buffer, that meet the contract of `lay` are equal
pub one_page : (w : Laying) (out out' : List ℕ) (r s : Answer ℕ) → Lays w out r → Lays w out' s → (r ≡ s) × (out ≡ out')
one_page w out out' r s p q = (p.says ∙ sym q.says, p.stored ∙ sym q.stored)
