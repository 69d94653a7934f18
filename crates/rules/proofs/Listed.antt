-- A day's list in a lent buffer: what is answered and what the buffer holds. Assumes nothing.
use Rattle.std.specs.Prelude.{Err, Ok}
use Prim.Native.Nat.{ℕ, ◌*◌, ◌≤◌, ◌<◌}
use mathlib.Core.Path.{◌≡◌, refl, ap, ◌∙◌}
use mathlib.Core.List.{List, [], ◌∷◌, ◌++◌}
use native.Mathlib.Omega.{arith}
use borrow.Author.Tests.{le-leb, lt-leb}
use lib.ListN.{length, drop}
use lib.Seq.{sets}
use Rattle.paper.specs.declared.Refusal.{Refusal}
use Rattle.paper.specs.declared.Refusal.TheVariants.{NoRoom}
use Rattle.paper.specs.Answers.{Answer}
use Rattle.paper.proofs.Stores.{sets_front}
use Rattle.rules.specs.Festivals.{Pair, numbers, listed}

pub numbers_length : (es : List Pair) → length (numbers es) ≡ length es * 2
numbers_length [] = refl
numbers_length (e ∷ es) = omega (arith, numbers_length es)

pub numbers_append : (a b : List Pair) → numbers (a ++ b) ≡ numbers a ++ numbers b
numbers_append [] b = refl
numbers_append (e ∷ a) b = ap (λ (l : List ℕ). e.0 ∷ e.1 ∷ l) (numbers_append a b)

-- an answer and a buffer are what is listed
pub record Says (a : Answer (List Pair)) (out : List ℕ) (r : Answer ℕ) (after : List ℕ) : Type 0 where
  pub answer : r ≡ (listed a out).answer
  pub buffer : after ≡ (listed a out).buffer

pub says_refused : (k : Refusal) (out : List ℕ) → Says (Err k) out (Err k) out
unfolding listed
says_refused k out = record { answer = refl; buffer = refl }

pub says_short : (l : List Pair) (out : List ℕ) → length out < length l * 2 → Says (Ok l) out (Err NoRoom) out
unfolding listed
says_short l out h = let e = lt-leb (length l * 2) (length out) h in record { answer = rw e; buffer = rw e }

pub says_list : (l : List Pair) (out after : List ℕ) (k : ℕ) → length l * 2 ≤ length out → k ≡ length l → after ≡ sets out 0 (numbers l) → Says (Ok l) out (Ok k) after
unfolding listed
says_list l out after k h p w =
    let e = le-leb (length l * 2) (length out) h in
    let front = sets_front (numbers l) out (omega (arith, numbers_length l)) in
    record { answer = rw (e, p); buffer = rw e (w ∙ front ∙ ap (λ (n : ℕ). numbers l ++ drop n out) (numbers_length l)) }

-- a refusal changes no element, and elements past the answer stay
pub says_by : {a b : Answer (List Pair)} {out after : List ℕ} {r : Answer ℕ} → a ≡ b → Says b out r after → Says a out r after
says_by e s = rw e s
