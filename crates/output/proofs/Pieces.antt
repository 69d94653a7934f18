-- Pieces put on a page one after the other. Assumes nothing.
use Rattle.std.specs.Prelude.{Err, Ok}
use Rattle.paper.specs.Answers.{Answer}
use Prim.Native.Nat.{ℕ}
use mathlib.Core.Bool.{false}
use mathlib.Core.Path.{◌≡◌, refl, sym, ap, ◌∙◌, subst}
use mathlib.Core.List.{List, [], ◌∷◌, ◌++◌}
use Rattle.paper.specs.declared.Refusal.{Refusal}
use Rattle.text.specs.Quoted.{bytes}
use Rattle.text.specs.Written.{Wrote}
use Rattle.gregorian.specs.declared.Date.{Date}
use Rattle.gregorian.specs.Answers.{date_answer}
use Rattle.output.specs.Gathered.{Gathered, gathered, room, stored}
use Rattle.output.specs.declared.Out.{Out}
use Rattle.output.specs.Pieces.{Text, put_piece, put_pieces, Puts, ymd_pieces, dated_pieces, date_pieces}

-- pieces, and then others
pub pieces_append : (g : Gathered) (xs ys : List Text) → put_pieces g (xs ++ ys) ≡ put_pieces (put_pieces g xs) ys
pieces_append g [] ys = refl
pieces_append g (x ∷ xs) ys = pieces_append (put_piece g x) xs ys

-- no piece
pub puts_none : (l : List ℕ) (o : Out) → Puts l o [] l o
puts_none l o = record { same = refl }

-- pieces, and then others
pub then : {l : List ℕ} {o : Out} {xs : List Text} {m : List ℕ} {p : Out} {ys : List Text} {n : List ℕ} {r : Out} → Puts l o xs m p → Puts m p ys n r → Puts l o (xs ++ ys) n r
then {l} {o} {xs} {m} {p} {ys} a b = record { same = b.same ∙ ap (λ (g : Gathered). put_pieces g ys) a.same ∙ sym (pieces_append (gathered l o) xs ys) }

-- a text that is written where there is room for a piece
pub one_piece : {l : List ℕ} {o : Out} {at : ℕ} {text m : List ℕ} {r : Out} → at ≡ room 128 l o.at → Wrote l at text m r.at → r.begun ≡ false → Puts l o (text ∷ []) m r
unfolding stored
one_piece e w b = record { same = rw (w.stored, w.end, b, e) }

-- the same pieces in other words
pub puts_as : {l : List ℕ} {o : Out} {xs ys : List Text} {m : List ℕ} {r : Out} → xs ≡ ys → Puts l o xs m r → Puts l o ys m r
puts_as {l} {o} {xs} {ys} {m} {r} e p = subst (λ (x : List Text). Puts l o x m r) e p

pub puts_out : {l : List ℕ} {o : Out} {xs : List Text} {m : List ℕ} {q r : Out} → q ≡ r → Puts l o xs m r → Puts l o xs m q
puts_out {l} {o} {xs} {m} e p = subst (λ (x : Out). Puts l o xs m x) (sym e) p

-- ---- the date of a day number

module _ (n : ℕ) {a : Answer Date} (e : a ≡ date_answer n) where
  pub date_is : {d : Date} → a ≡ Ok d → ymd_pieces d ≡ date_pieces n
  unfolding date_pieces
  date_is q = ap dated_pieces (sym q ∙ e)

  pub date_none : {k : Refusal} → a ≡ Err k → bytes "no date" ∷ [] ≡ date_pieces n
  unfolding date_pieces
  date_none q = ap dated_pieces (sym q ∙ e)
