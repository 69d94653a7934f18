-- What a refusal leaves: every element of every lent buffer, by the definitions that the contracts cite. Assumes nothing.
use Rattle.std.specs.Prelude.{Err, Ok}
use Prim.Native.Nat.{ℕ, ◌*◌}
use mathlib.Core.Path.{◌≡◌, refl}
use mathlib.Core.Bool.{Bool, true, false, cond}
use mathlib.Core.List.{List}
use lib.Dec.{leb}
use lib.Ieee.{Float}
use lib.ListN.{length}
use Rattle.paper.specs.declared.Refusal.{Refusal}
use Rattle.paper.specs.Answers.{Answer}
use Rattle.paper.proofs.Answers.{refused_answered}
use Rattle.sky.specs.Answers.{held, starts_answer, starts_buffer}
use Rattle.rules.specs.Festivals.{Pair, Listed, listed}
use Rattle.grid.specs.Month.{Grid, shown}

-- of two, the first answers: a refusal is the second's
second : (b : Bool) (x y : Listed) (n : ℕ) (k : Refusal) → x.answer ≡ Ok n → (cond {A = Listed} b x y).answer ≡ Err k → (cond {A = Listed} b x y).buffer ≡ y.buffer
second true x y n k q h = absurd (refused_answered h q)
second false x y n k q h = refl

-- `festivals_on`, `festivals_on_ad`
pub list_left : (a : Answer (List Pair)) (out : List ℕ) (k : Refusal) → (listed a out).answer ≡ Err k → (listed a out).buffer ≡ out
unfolding listed
list_left (Ok l) out k h = second (leb (length l * 2) (length out)) _ _ (length l) k refl h
list_left (Err j) out k h = refl

-- `month_grid`: cells and festivals
pub month_left : (a : Answer Grid) (cells festivals : List ℕ) (k : Refusal) → (shown a cells festivals).answer ≡ Err k
    → ((shown a cells festivals).cells ≡ cells) × ((shown a cells festivals).festivals ≡ festivals)
unfolding shown
month_left (Ok g) cells festivals k h = absurd (refused_answered h refl)
month_left (Err j) cells festivals k h = (refl, refl)

-- `tithi_starts_between`
pub starts_left : (n : ℕ) (from to : Float) (out : List Float) (k : Refusal) → starts_answer n from to (length out) ≡ Err k → starts_buffer n from to out ≡ out
unfolding starts_buffer held
starts_left n from to out k h = rw h
