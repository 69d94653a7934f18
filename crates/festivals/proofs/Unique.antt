-- What an answer says tells the answer, so no second answer meets the contract of a day list: the definition fixes what is said and every element of the
-- buffer. Assumes nothing.
use Prim.Native.Nat.{ℕ}
use mathlib.Core.Path.{◌≡◌, sym, ◌∙◌}
use mathlib.Core.List.{List}
use Rattle.paper.specs.Answers.{Answer}
use Rattle.rules.specs.Festivals.{Listed}

-- NO SECOND ANSWER, for either call: two answers, and two states of the buffer, that meet the contract are equal
pub one_list : (l : Listed) (r s : Answer ℕ) (a b : List ℕ) → (r ≡ l.answer) × (a ≡ l.buffer) → (s ≡ l.answer) × (b ≡ l.buffer) → (r ≡ s) × (a ≡ b)
one_list l r s a b p q = (p.0 ∙ sym q.0, p.1 ∙ sym q.1)
