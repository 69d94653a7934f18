-- What the two answers say of a table: nothing is broken exactly where it is accepted, and a table that shares all its numbers is the beginning.
-- Assumes nothing.
use Rattle.std.proofs.Common.{◌≡◌, ℕ, zero, suc, ◌+◌, ◌≤◌, Bool, true, false, cond, eqb, ltb, List, [], ◌∷◌, ◌++◌, length, drop, refl, ap, arith, eqb-true}
use Rattle.std.specs.Prelude.{None, Some, is_none}
use Rattle.std.specs.Bool.{◌==◌}
use Rattle.std.specs.List.{prefix_len, zip}
use Rattle.std.proofs.lemmas.List.Folds.{length-prefix_len}
use Rattle.conversion.specs.declared.Table.{Table}
use Rattle.conversion.specs.Flat.{accepted}
use Rattle.tables.specs.Breaks.{place, first_broken}
use Rattle.tables.specs.Shared.{shared}

-- nothing is broken exactly where the table is accepted
pub whole_accepted : (t : Table) (rows : List ℕ) → is_none (first_broken t rows) ≡ accepted t rows
unfolding first_broken
whole_accepted t rows = go (accepted t rows)
  where
    go : (b : Bool) → is_none (cond b None (Some (place t rows))) ≡ b
    go true = refl
    go false = refl

begins : (xs ys : List ℕ) → length xs ≤ prefix_len (λ p. p.0 == p.1) (zip xs ys) → ys ≡ xs ++ drop (length xs) ys
begins [] ys e = refl
begins (x ∷ xs) [] e = absurd (let bad : ⊥ = omega arith in bad)
begins (x ∷ xs) (y ∷ ys) e = go (eqb x y) refl (begins xs ys) e
  where
    go : (b : Bool) → eqb x y ≡ b → (length xs ≤ prefix_len (λ p. p.0 == p.1) (zip xs ys) → ys ≡ xs ++ drop (length xs) ys)
        → suc (length xs) ≤ cond b (1 + prefix_len (λ p. p.0 == p.1) (zip xs ys)) 0 → y ∷ ys ≡ x ∷ (xs ++ drop (length xs) ys)
    go true q ih f =
        let w : x ≡ y = eqb-true x y q in
        rw w (ap (λ (t : List ℕ). y ∷ t) (ih (omega arith)))
    go false q ih f = absurd (let bad : ⊥ = omega arith in bad)

-- a table all of whose numbers another shares is the other's beginning: what `steady` asks
pub shared_begins : (xs ys : List ℕ) → length xs ≤ shared xs ys → ys ≡ xs ++ drop (length xs) ys
shared_begins xs ys e = begins xs ys (omega (arith, length-prefix_len (λ (p : ℕ × ℕ). p.0 == p.1) (zip xs ys)))
