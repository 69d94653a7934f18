-- Numbers that lines lend, one after the other at the end of a list. Assumes nothing.
use Rattle.std.specs.Prelude.{Option, Some, None}
use Prim.Native.Nat.{ℕ, zero, suc, ◌+◌, ◌≤◌}
use mathlib.Core.Path.{◌≡◌, refl}
use mathlib.Core.Bool.{Bool, true, false, cond}
use mathlib.Core.List.{List, [], ◌∷◌}
use native.Mathlib.Numerals.{add-one}
use native.Mathlib.Omega.{arith}
use lib.Dec.{eqb, ltb}
use lib.ListN.{length, length-append}
use Rattle.text.specs.Written.{Wrote}
use Rattle.text.proofs.Writes.{then}
use Rattle.asked.specs.Tags.{TABLE, CELLS, RULES, RULE, TEXT}
use Rattle.asked.specs.declared.words.Words.{Words}
use Rattle.asked.specs.Line.{small}
use Rattle.lending.specs.declared.Lending.{Lending}
use Rattle.lending.specs.declared.Lending.TheVariants as L
use Rattle.lending.specs.Lending.{ones, numbers_in, lending_of, numbers_of, line_numbers, longer}
use Rattle.lending.proofs.Forms.{numbers_most}

-- a word more at the end
pub append_turn : {l m k : List ℕ} {f a b : ℕ} (w : Words) (i x : ℕ) → Wrote l f (numbers_of w i) m a → x ≡ small w (i + 1) → Wrote m a (x ∷ []) k b → Wrote l f (numbers_of w (i + 1)) k b
append_turn {l} {m} {k} {f} {a} {b} w i x p e q =
    let r : Wrote m a (small w (i + 1) ∷ []) k b = rw e at q in
    rw add-one (then p (rw add-one at r))

-- n words are n numbers
length_numbers : (w : Words) (n : ℕ) → length (numbers_of w n) ≡ n
length_numbers w zero = refl
length_numbers w (suc n) = let q = length_numbers w n in omega (arith, length-append (numbers_of w n) (small w (suc n) ∷ []))

-- where the list ends after them
pub wrote_longer : {l m : List ℕ} {f a : ℕ} (w : Words) (n : ℕ) → Wrote l f (numbers_of w n) m a → a ≡ longer l f n
wrote_longer {l} {m} {f} {a} w n p = rw (length_numbers w n) at p.end

-- how many numbers a line lends
abbrev pub how_many : Option Lending → ℕ
how_many (Some L.Table) = 0
how_many (Some L.Rules) = 0
how_many (Some (L.Cells n)) = n
how_many (Some (L.Numbers n)) = n
how_many (Some L.Text) = 0
how_many (Some L.Octets) = 0
how_many None = 0

-- at most so many
pub record Few (l : Option Lending) : Type 0 where
  pub most : how_many l ≤ 13

-- no line lends more than thirteen
pub few : (tag form bytes : ℕ) → Few (lending_of tag form bytes)
unfolding lending_of
few tag form bytes =
    either (ltb 0 bytes) (record { most = omega arith })
    (either (eqb tag TABLE) (either (eqb form (ones 4)) (record { most = omega arith }) (record { most = omega arith }))
    (either (eqb tag CELLS) (record { most = numbers_most form 13 })
    (either (eqb tag RULES) (either (eqb form 0) (record { most = omega arith }) (record { most = omega arith }))
    (either (eqb tag RULE) (record { most = omega (arith, numbers_most form 8) })
    (either (eqb tag TEXT) (either (eqb form 0) (record { most = omega arith }) (record { most = omega arith })) (record { most = omega arith }))))))
  where
    either : (t : Bool) {a b : Option Lending} → Few a → Few b → Few (cond t a b)
    either true p q = p
    either false p q = q

-- the numbers of a line are at most sixteen
pub line_few : (w : Words) → length (line_numbers w) ≤ 16
line_few w = rw (length_numbers w (numbers_in w.form 16)) (numbers_most w.form 16)
