-- A question that goes on from another's answer. Where the first is steady, and what is made of its answers is the same, so is the whole.
-- Assumes nothing.
use Rattle.std.specs.Prelude.{Err, Ok}
use mathlib.Core.Path.{◌≡◌, refl, sym, ap, ◌∙◌}
use Rattle.paper.specs.declared.Refusal.{Refusal}
use Rattle.paper.specs.Answers.{Answer, then}
use Rattle.paper.proofs.Answers.{answered_same, refused_answered, then_answered, then_refused}
use Rattle.conversion.specs.Claims.{RefusedIf}

-- what was made of an answer was made of one that was given
pub then_told : {X Y : Type 0} (a : Answer X) (f : X → Answer Y) {v : Y} → then a f ≡ Ok v → (x : X) × ((a ≡ Ok x) × (f x ≡ Ok v))
then_told (Ok x) f e = (x, (refl, e))
then_told (Err k) f e = absurd (refused_answered (then_refused k f) e)

-- the shorter answers a, the longer b; what f makes of an answer of the shorter, g makes of it too
module _ {X Y : Type 0} (a b : Answer X) (f g : X → Answer Y) (longer : (x : X) → a ≡ Ok x → b ≡ Ok x) (same : (x : X) → a ≡ Ok x → f x ≡ g x) where
  pub then_longer : (v : Y) → then a f ≡ Ok v → then b g ≡ Ok v
  then_longer v e =
      let t = then_told a f e in
      ap (λ (z : Answer X). then z g) (longer t.0 t.1.0) ∙ then_answered t.0 g ∙ sym (same t.0 t.1.0) ∙ t.1.1

  -- what the longer answers, the shorter refuses exactly if it refuses what that goes on from
  pub then_added : (k : Refusal) (P : Type 0) (x : X) (v : Y) → b ≡ Ok x → RefusedIf a k P → then b g ≡ Ok v → RefusedIf (then a f) k P
  then_added k P x v q r e =
      record {
        when = λ p. ap (λ (z : Answer X). then z f) (r.when p) ∙ then_refused k f;
        only = λ j h. go j h a refl;
      }
    where
      made : g x ≡ Ok v
      made = sym (then_answered x g) ∙ ap (λ (z : Answer X). then z g) (sym q) ∙ e

      go : (j : Refusal) → then a f ≡ Err j → (c : Answer X) → a ≡ c → P
      go j h (Ok z) p =
          let one : z ≡ x = answered_same (sym (longer z p) ∙ q) in
          let o : a ≡ Ok x = p ∙ ap Ok one in
          absurd (refused_answered h (ap (λ (w : Answer X). then w f) o ∙ then_answered x f ∙ same x o ∙ made))
      go j h (Err i) p = r.only i p
