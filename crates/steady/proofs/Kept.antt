-- DEMAND 3 holds for the kept state, before and after an appended row. Assumes nothing.
use Rattle.std.specs.Prelude.{Ok}
use Prim.Native.Nat.{ℕ}
use mathlib.Core.Path.{◌≡◌, refl, ap}
use mathlib.Core.Bool.{Bool, true, false}
use mathlib.Core.List.{List, [], ◌++◌}
use mathlib.Core.Logic.{⊎_elim}
use native.Mathlib.Omega.{arith}
use lib.Dec.{eqb}
use lib.ListN.{length, length-append}
use Rattle.paper.specs.declared.Refusal.TheVariants.{BadTable}
use Rattle.paper.specs.Answers.{given}
use Rattle.paper.proofs.Answers.{refused_answered}
use Rattle.paper.proofs.Tests.{and_right}
use Rattle.conversion.specs.Flat.{accepted}
use Rattle.kept.specs.State.{State, Good}
use Rattle.kept.specs.Operations.{outcome, with_row, append_row}
use Rattle.kept.proofs.Goods.{good_row}
use Rattle.kept.proofs.Theorems.{no_length, keeps}
use Rattle.steady.specs.Kept.{KeptSteady}
use Rattle.steady.proofs.Steady.{steady}
use Rattle.steady.proofs.Composed.{any}

module _ (σ : State) (g : Good σ) (h : σ.rows ≡ [] → ⊥) (row : List ℕ) where
  -- a state that holds a row has an accepted table
  held : accepted σ.table σ.rows ≡ true
  held = ⊎_elim (λ e. absurd (h e)) (λ e. e) g.table

  with_row_law : accepted σ.table (σ.rows ++ row) ≡ true → KeptSteady σ (with_row σ row)
  with_row_law e =
      let u = keeps σ g in
      let v = keeps (with_row σ row) (good_row σ g row e) in
      let some : σ.rows ++ row ≡ [] → ⊥ = λ z. h (no_length σ.rows (omega (arith, length-append σ.rows row, ap length z))) in
      let s = steady σ.table σ.rows row σ.rules any held e in
      record {
        list = λ y m d out. rw (u.list h y m d out, v.list some y m d out) (s.list y m d out);
        list_ad = λ y m d out. rw (u.list_ad h y m d out, v.list_ad some y m d out) (s.list_ad y m d out);
        list_outside = λ y m d out. rw (u.list_ad h y m d out, v.list_ad some y m d out) (s.list_outside y m d out);
        month = λ today y m cells festivals. rw (u.month h today y m cells festivals, v.month some today y m cells festivals) ((steady σ.table σ.rows row σ.rules today held e).month y m cells festivals);
        to_ad_law = λ y m d. rw (u.to_ad_law h y m d, v.to_ad_law some y m d) (s.to_ad_law y m d);
        to_bs = λ y m d. rw (u.to_bs h y m d, v.to_bs some y m d) (s.to_bs y m d);
        bs_outside = λ y m d. rw (u.to_bs h y m d, v.to_bs some y m d) (s.bs_outside y m d);
      }

  by_test : (b : Bool) → (b ≡ true → accepted σ.table (σ.rows ++ row) ≡ true) → (outcome σ (given b BadTable (Ok (with_row σ row)))).answer ≡ Ok tt
      → KeptSteady σ (outcome σ (given b BadTable (Ok (with_row σ row)))).state
  by_test true t e = with_row_law (t refl)
  by_test false t e = absurd (refused_answered refl e)

  -- an appended row changes no answer
  pub kept_steady : (append_row σ row).answer ≡ Ok tt → KeptSteady σ (append_row σ row).state
  unfolding append_row
  kept_steady e = by_test _ (λ t. and_right (eqb (length row) 13) _ t) e
