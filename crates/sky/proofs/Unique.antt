-- What an answer says tells the answer: so no second answer meets a contract. Assumes nothing.
use Rattle.std.specs.Prelude.{Err, None, Ok, Option, Some}
use Prim.Native.Nat.{ℕ}
use mathlib.Core.Path.{◌≡◌, refl}
use lib.Ieee.{Float}
use Rattle.paper.specs.Answers.{Answer}
use Rattle.paper.proofs.Answers.{told_by_law}
use Rattle.sky.specs.Answers.{tt_says, first_says, starts_says, instant_says}
use Rattle.sky.specs.declared.TtDay.{TtDay}
use Rattle.gregorian.specs.declared.UtDay.{UtDay}
use Rattle.sky.specs.declared.Starts.{Starts}

abbrev tt_back : Answer Float → Answer TtDay
tt_back (Ok x) = Ok (record { 0 = x })
tt_back (Err k) = Err k

tt_back_law : (r : Answer TtDay) → tt_back (tt_says r) ≡ r
tt_back_law (Ok t) = refl
tt_back_law (Err k) = refl

pub tt_only : (r s : Answer TtDay) → tt_says r ≡ tt_says s → r ≡ s
tt_only = told_by_law tt_says tt_back tt_back_law

abbrev first_back : Option Float → Option UtDay
first_back (Some x) = Some (record { 0 = x })
first_back None = None

first_back_law : (r : Option UtDay) → first_back (first_says r) ≡ r
first_back_law (Some t) = refl
first_back_law None = refl

pub first_only : (r s : Option UtDay) → first_says r ≡ first_says s → r ≡ s
first_only = told_by_law first_says first_back first_back_law

abbrev starts_back : Answer (ℕ × ℕ) → Answer Starts
starts_back (Ok x) = Ok (record { count = x.0; steps = x.1 })
starts_back (Err k) = Err k

starts_back_law : (r : Answer Starts) → starts_back (starts_says r) ≡ r
starts_back_law (Ok s) = refl
starts_back_law (Err k) = refl

pub starts_only : (r s : Answer Starts) → starts_says r ≡ starts_says s → r ≡ s
starts_only = told_by_law starts_says starts_back starts_back_law

abbrev instant_back : Answer (Option Float) → Answer (Option UtDay)
instant_back (Ok (Some x)) = Ok (Some (record { 0 = x }))
instant_back (Ok None) = (Ok None)
instant_back (Err k) = Err k

instant_back_law : (r : Answer (Option UtDay)) → instant_back (instant_says r) ≡ r
instant_back_law (Ok (Some t)) = refl
instant_back_law (Ok None) = refl
instant_back_law (Err k) = refl

pub instant_only : (r s : Answer (Option UtDay)) → instant_says r ≡ instant_says s → r ≡ s
instant_only = told_by_law instant_says instant_back instant_back_law
