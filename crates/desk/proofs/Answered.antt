-- What is answered and what is kept after it, over plain variables. Assumes nothing.
use Rattle.std.specs.Prelude.{Err, None, Ok, Some}
use Prim.Native.Nat.{ℕ}
use mathlib.Core.Path.{◌≡◌, refl, sym, ap, ◌∙◌}
use mathlib.Core.Bool.{Bool, true, false}
use mathlib.Core.List.{List}
use Rattle.paper.specs.Answers.{Answer, given, then}
use Rattle.paper.specs.declared.Refusal.{Refusal}
use Rattle.paper.specs.declared.Refusal.TheVariants.{BadTable}
use Rattle.paper.proofs.Answers.{refused_answered}
use Rattle.output.specs.Gathered.{Gathers}
use Rattle.output.specs.declared.Out.{Out}
use Rattle.conversion.specs.declared.Table.{Table}
use Rattle.replies.specs.Replies.{said, reply_words}
use Rattle.replies.specs.declared.Reply.TheVariants as R
use Rattle.kept.specs.State.{State, startable}
use Rattle.kept.specs.Operations.{blank, start, Outcome}
use Rattle.kept.specs.Held.{Holds, StartedAs, DoneAs}
use Rattle.kept.specs.declared.Kept.{Kept}
use Rattle.kept.specs.declared.After.{After}
use Rattle.desk.specs.declared.keeping.Said.{Said}
use Rattle.desk.specs.Keeping.{start_told, done_told, Says}

module _ {before : List ℕ} {o : Out} {after : List ℕ} {r : Said} where
  -- a state is kept
  pub says_kept : {words : List (List ℕ)} {k : Kept} {τ : State} → r.kept ≡ Some k → Holds k τ → Gathers before o words after r.out
      → Says before o (record { words = words; state = Some τ }) after r
  says_kept e h g = record { words = g; state = rw e (ap Some h.state); sound = rw e h.ready }

  -- none is
  pub says_none : {words : List (List ℕ)} → r.kept ≡ None → Gathers before o words after r.out
      → Says before o (record { words = words; state = None }) after r
  says_none e g = record { words = g; state = rw e; sound = rw e tt }

  pub says_done : {d : After Unit} {w : Outcome} → DoneAs d w → r.kept ≡ Some d.state
      → Gathers before o (reply_words (said (λ x. R.Good) d.answer)) after r.out → Says before o (done_told w) after r
  says_done h e g = says_kept e h.holds (rw h.answer at g)

-- ---- a start

abbrev done : Answer Unit
done = Ok tt

given_good : {A : Type 0} (b : Bool) (k : Refusal) (x : A) → done ≡ then (given b k (Ok x)) (λ y. done) → given b k (Ok x) ≡ Ok x
given_good true k x e = refl
given_good false k x e = absurd (refused_answered e refl)

given_bad : {A : Type 0} (b : Bool) (k why : Refusal) (x : A) → Err why ≡ then (given b k (Ok x)) (λ y. done)
    → given b k (Ok x) ≡ Err why
given_bad true k why x e = absurd (refused_answered (sym e) refl)
given_bad false k why x e = let q : k ≡ why = cc in ap Err q

module _ {before : List ℕ} {o : Out} {after : List ℕ} {r : Said} {s : After Unit} (t : Table) (h : StartedAs s t) where
  pub begun : s.answer ≡ Ok tt → r.kept ≡ Some s.state → Gathers before o (reply_words R.Good) after r.out → Says before o (start_told (start t)) after r
  unfolding start
  begun e q g =
      let told = sym e in
      rw (given_good (startable t) BadTable (blank t) (told ∙ h.answer)) (says_kept q (h.ready (sym told)) g)

  pub not_begun : {why : Refusal} → s.answer ≡ Err why → r.kept ≡ None → Gathers before o (reply_words (R.Refused why)) after r.out
      → Says before o (start_told (start t)) after r
  unfolding start
  not_begun {why} e q g =
      rw (given_bad (startable t) BadTable why (blank t) (sym e ∙ h.answer)) (says_none q g)
