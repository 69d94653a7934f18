-- An equal answer hands over the same, beside what else was written. Assumes nothing.
use Rattle.std.specs.Prelude.{Option}
use Prim.Native.Nat.{ℕ}
use mathlib.Core.Path.{◌≡◌}
use mathlib.Core.List.{List}
use Rattle.paper.specs.declared.Told.{Told}
use Rattle.paper.specs.Answers.{Answer}
use Rattle.panel.specs.Boundary.{gives, line_in, gives_told, gives_read, gives_written}

pub handed :
    {A P X : Type 0} {a b : Answer A} {got : ℕ × P} {s t : X} (parts : A → P) (old : P) →
    a ≡ b → got ≡ gives a parts old → s ≡ t → ◌≡◌ {A = (ℕ × P) × X} (got, s) (gives b parts old, t)
handed parts old e g p = cc

pub both : {X Y : Type 0} {s t : X} {u v : Y} → s ≡ t → u ≡ v → ◌≡◌ {A = X × Y} (s, u) (t, v)
both p q = cc

-- an equal answer hands over the same, alone
pub given_as : {A P : Type 0} {a b : Answer A} {got : ℕ × P} (parts : A → P) (old : P) → a ≡ b → got ≡ gives a parts old → got ≡ gives b parts old
given_as parts old e g = cc

pub told_as : {A P D : Type 0} {a b : Answer A} {got : ℕ × (P × D)} (tell : Option Told → D → D) (parts : A → P) (old : P × D) → a ≡ b → got ≡ gives_told tell a parts old → got ≡ gives_told tell b parts old
told_as tell parts old e g = cc

-- an equal answer hands over the same, with what it tells and beside what else was written
pub handed_told :
    {A P D X : Type 0} {a b : Answer A} {got : ℕ × (P × D)} {s t : X} (tell : Option Told → D → D) (parts : A → P) (old : P × D) →
    a ≡ b → got ≡ gives_told tell a parts old → s ≡ t → ◌≡◌ {A = (ℕ × (P × D)) × X} (got, s) (gives_told tell b parts old, t)
handed_told tell parts old e g p = cc

-- a rule file read, and one written
pub handed_read : {a : Answer ℕ} {w : Answer ℕ × List ℕ} {got : ℕ × (ℕ × ℕ)} {s : List ℕ} (old : ℕ × ℕ) → got ≡ gives_told line_in a (λ n. n) old → (a, s) ≡ w
    → (got, s) ≡ gives_read w old
handed_read old g e = rw (← e, g)

pub handed_written : {a : Answer ℕ} {w : Answer ℕ × List ℕ} {got : ℕ × ℕ} {s : List ℕ} (old : ℕ) → got ≡ gives a (λ n. n) old → (a, s) ≡ w
    → (got, s) ≡ gives_written w old
handed_written old g e = rw (← e, g)
