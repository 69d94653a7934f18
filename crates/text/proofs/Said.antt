-- What a reading's answer tells of the text, case by case, and that no second answer says the same. Assumes nothing.
use Rattle.std.specs.Prelude.{None, Option, Some}
use Prim.Native.Nat.{ℕ, ◌≤◌}
use mathlib.Core.Path.{◌≡◌, refl, sym, ap, ◌∙◌, subst}
use mathlib.Core.List.{List}
use lib.ListN.{length, drop}
use Rattle.text.specs.Digits.{Got, got, no}
use Rattle.text.specs.Reading.{Says, read_says, read_end, passed_says, passed_end}
use Rattle.text.specs.declared.reading.Cursor.{Cursor}
use Rattle.text.proofs.Runs.{never}
use Rattle.text.proofs.Texts.{same_place}

module _ {A : Type 0} {s : List ℕ} {g : Got A} (r : Option (A × Cursor)) (p : Says s (read_says s r) (read_end r) g) where
  pub number_said : {x : A} {next : Cursor} → r ≡ Some (x, next) → g ≡ got x (drop next.at s)
  number_said q = sym p.same ∙ ap (read_says s) q

  pub number_inside : {x : A} {next : Cursor} → r ≡ Some (x, next) → next.at ≤ length s
  number_inside q = subst (λ (x : Option (A × Cursor)). read_end x ≤ length s) q p.inside

  pub number_unsaid : r ≡ None → g ≡ no
  number_unsaid q = sym p.same ∙ ap (read_says s) q

module _ {s : List ℕ} {g : Got (Unit {0})} (r : Option Cursor) (p : Says s (passed_says s r) (passed_end r) g) where
  pub passed_said : {next : Cursor} → r ≡ Some next → g ≡ got tt (drop next.at s)
  passed_said q = sym p.same ∙ ap (passed_says s) q

  pub passed_inside : {next : Cursor} → r ≡ Some next → next.at ≤ length s
  passed_inside q = subst (λ (x : Option Cursor). passed_end x ≤ length s) q p.inside

  pub passed_unsaid : r ≡ None → g ≡ no
  passed_unsaid q = sym p.same ∙ ap (passed_says s) q

-- ---- one answer alone

same_got : {A : Type 0} {x y : A} {i j : ℕ} (s : List ℕ) → got x (drop i s) ≡ got y (drop j s) → i ≤ length s → j ≤ length s → (x ≡ y) × (i ≡ j)
same_got {A} {x} {y} {i} {j} s e h l =
    let a : x ≡ y = cc in
    let b : drop i s ≡ drop j s = cc in
    (a, same_place s i j h l b)

abbrev cursor_at : ℕ → Cursor
cursor_at i = record { at = i }

same_cursor : (a b : Cursor) → a.at ≡ b.at → a ≡ b
same_cursor a b e = ap cursor_at e

pub read_only : {A : Type 0} (s : List ℕ) (g : Got A) (r q : Option (A × Cursor)) → Says s (read_says s r) (read_end r) g → Says s (read_says s q) (read_end q) g → r ≡ q
read_only s g (Some (n, a)) (Some (m, b)) p o =
    let w = same_got s (p.same ∙ sym o.same) p.inside o.inside in
    let e = same_cursor a b w.1 in
    rw (w.0, e)
read_only s g (Some (n, a)) None p o = absurd (never (o.same ∙ sym p.same))
read_only s g None (Some (m, b)) p o = absurd (never (p.same ∙ sym o.same))
read_only s g None None p o = refl

pub passed_only : (s : List ℕ) (g : Got (Unit {0})) (r q : Option Cursor) → Says s (passed_says s r) (passed_end r) g → Says s (passed_says s q) (passed_end q) g → r ≡ q
passed_only s g (Some a) (Some b) p o = ap Some (same_cursor a b (same_got s (p.same ∙ sym o.same) p.inside o.inside).1)
passed_only s g (Some a) None p o = absurd (never (o.same ∙ sym p.same))
passed_only s g None (Some b) p o = absurd (never (p.same ∙ sym o.same))
passed_only s g None None p o = refl
