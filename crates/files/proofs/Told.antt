-- How a line is sought: the lines looked at one after the other, and what the line that was looked at last says. Assumes nothing.
use Rattle.std.specs.Prelude.{is_some}
use Rattle.std.proofs.Common.{◌≡◌, ℕ, Bool, true, false, cond, List, [], ◌∷◌, ◌++◌, sym, refl, ap, ◌∙◌}
use Rattle.files.specs.declared.telling.Sought.{Sought}
use Rattle.files.specs.declared.telling.Place.{Place}
use Rattle.files.specs.Told.{looked_at, looked}
use Rattle.files.specs.Inner.{Looks}

looked_found : (w : Sought) (p : Place) (ls : List (List ℕ)) → is_some p.found ≡ true → p ≡ looked w p ls
looked_found w p [] e = refl
looked_found w p (s ∷ ls) e = rw e

looked_append : (w : Sought) (p : Place) (ls ms : List (List ℕ)) → looked w p (ls ++ ms) ≡ looked w (looked w p ls) ms
looked_append w p [] ms = refl
looked_append w p (s ∷ ls) ms = go (is_some p.found) refl (looked_append w (looked_at w p s) ls ms)
  where
    go : (b : Bool) → is_some p.found ≡ b → looked w (looked_at w p s) (ls ++ ms) ≡ looked w (looked w (looked_at w p s) ls) ms
        → cond b p (looked w (looked_at w p s) (ls ++ ms)) ≡ looked w (cond b p (looked w (looked_at w p s) ls)) ms
    go true e ih = looked_found w p ms e
    go false e ih = ih

second : {A : Type 0} (b : Bool) (x y : A) → b ≡ false → y ≡ cond b x y
second b x y e = rw e

-- one line more
pub looks_line : {w : Sought} {p q r : Place} → Looks w p q → is_some q.found ≡ false → (s : List ℕ) → r ≡ looked_at w q s → Looks w p r
looks_line {w} {p} {q} {r} l e s f =
    let one : r ≡ looked w q (s ∷ []) = f ∙ second (is_some q.found) q (looked_at w q s) e in
    record {
      lines = l.lines ++ (s ∷ []);
      same = one ∙ ap (λ (x : Place). looked w x (s ∷ [])) l.same ∙ sym (looked_append w p l.lines (s ∷ []));
    }
