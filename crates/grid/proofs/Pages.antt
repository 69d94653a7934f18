-- The days of a month stored one after the other: what a turn of the loop leaves to store. Assumes nothing.
use Prim.Native.Nat.{ℕ, suc, ◌+◌, ◌-◌, ◌*◌, ◌≤◌, ◌<◌}
use mathlib.Core.Path.{◌≡◌, refl, sym, ap, ◌∙◌}
use mathlib.Core.List.{List, [], ◌++◌}
use native.Mathlib.Nat.{add-zero, zero-add, sub-zero}
use native.Mathlib.Omega.{arith}
use lib.ListN.{length, length-append}
use lib.Seq.{sets, length-sets}
use Rattle.paper.proofs.Stores.{sets_append}
use Rattle.rules.specs.Festivals.{Pair, numbers}
use Rattle.rules.proofs.Listed.{numbers_length, numbers_append}
use Rattle.festivals.specs.Months.{each}
use Rattle.grid.specs.Cells.{joined}

-- nothing is left at the end
none_left : {A : Type 0} (f : ℕ → List A) (d k : ℕ) → k ≡ 0 → joined (each f d k) ≡ []
unfolding each joined
none_left f d k e = rw e

each_joined : {A : Type 0} (f : ℕ → List A) (d k : ℕ) → joined (each f d (suc k)) ≡ f d ++ joined (each f (d + 1) k)
unfolding each joined
each_joined f d k = refl

-- day d, and the days after it
joined_turn : {A : Type 0} (f : ℕ → List A) (d n : ℕ) → d < n → joined (each f d (n - d)) ≡ f d ++ joined (each f (d + 1) (n - (d + 1)))
joined_turn f d n h =
    let e : n - d ≡ suc (n - (d + 1)) = omega arith in
    rw e (each_joined f d (n - (d + 1)))

module _ (d n : ℕ) (h : d < n) where
  cells_turn : (f : ℕ → List ℕ) (lead : ℕ) (out : List ℕ) → length (f d) ≡ 12
      → sets (sets out ((lead + d) * 12) (f d)) ((lead + (d + 1)) * 12) (joined (each f (d + 1) (n - (d + 1))))
      ≡ sets out ((lead + d) * 12) (joined (each f d (n - d)))
  cells_turn f lead out e =
      let g : (lead + (d + 1)) * 12 ≡ (lead + d) * 12 + length (f d) = omega arith in
      rw (g, joined_turn f d n h) (sym (sets_append (f d) (joined (each f (d + 1) (n - (d + 1)))) out ((lead + d) * 12)))

  lists_turn : (f : ℕ → List Pair) (at to : ℕ) (out : List ℕ) → to ≡ at + length (f d)
      → sets (sets out (at * 2) (numbers (f d))) (to * 2) (numbers (joined (each f (d + 1) (n - (d + 1)))))
      ≡ sets out (at * 2) (numbers (joined (each f d (n - d))))
  lists_turn f at to out e =
      let g : to * 2 ≡ at * 2 + length (numbers (f d)) = omega (arith, numbers_length (f d)) in
      rw (g, joined_turn f d n h, numbers_append) (sym (sets_append (numbers (f d)) (numbers (joined (each f (d + 1) (n - (d + 1))))) out (at * 2)))

  count_turn : (f : ℕ → List Pair) (at to : ℕ) → to ≡ at + length (f d)
      → to + length (joined (each f (d + 1) (n - (d + 1)))) ≡ at + length (joined (each f d (n - d)))
  count_turn f at to e = rw (joined_turn f d n h, length-append) (omega arith)

-- the cells f and the lists g of the days, stored up to day d: what is left goes on from there
module _ (f : ℕ → List ℕ) (g : ℕ → List Pair) (lead days : ℕ) (page₀ lists₀ : List ℕ) where
  pub record Left (page lists : List ℕ) (at d : ℕ) : Type 0 where
    pub so_far : d ≤ days
    pub few : at ≤ 384 * d
    pub page_kept : length page ≡ length page₀
    pub lists_kept : length lists ≡ length lists₀
    pub cells_left : sets page ((lead + d) * 12) (joined (each f d (days - d))) ≡ sets page₀ (lead * 12) (joined (each f 0 days))
    pub lists_left : sets lists (at * 2) (numbers (joined (each g d (days - d)))) ≡ sets lists₀ 0 (numbers (joined (each g 0 days)))
    pub count_left : at + length (joined (each g d (days - d))) ≡ length (joined (each g 0 days))

  pub left_first : Left page₀ lists₀ 0 0
  left_first =
      record {
        so_far = omega arith;
        few = omega arith;
        page_kept = refl;
        lists_kept = refl;
        cells_left = simp (add-zero, sub-zero);
        lists_left = simp sub-zero;
        count_left = simp (sub-zero, zero-add);
      }

  module _ (page lists : List ℕ) (at d : ℕ) (l : Left page lists at d) where
    pub left_turn : (page' lists' : List ℕ) (to : ℕ) → d < days → length (f d) ≡ 12 → page' ≡ sets page ((lead + d) * 12) (f d) → lists' ≡ sets lists (at * 2) (numbers (g d)) → to ≡ at + length (g d) → to ≤ at + 384 → Left page' lists' to (d + 1)
    left_turn page' lists' to h n p q e b =
        record {
          so_far = omega arith;
          few = omega (arith, l.few);
          page_kept = ap length p ∙ length-sets page ((lead + d) * 12) (f d) ∙ l.page_kept;
          lists_kept = ap length q ∙ length-sets lists (at * 2) (numbers (g d)) ∙ l.lists_kept;
          cells_left = rw p (cells_turn d days h f lead page n ∙ l.cells_left);
          lists_left = rw q (lists_turn d days h g at to lists e ∙ l.lists_left);
          count_left = count_turn d days h g at to e ∙ l.count_left;
        }

    -- all days are stored
    pub left_none : days ≤ d → (page ≡ sets page₀ (lead * 12) (joined (each f 0 days))) × (lists ≡ sets lists₀ 0 (numbers (joined (each g 0 days)))) × (at ≡ length (joined (each g 0 days)))
    left_none h =
        let z : days - d ≡ 0 = omega arith in (
          rw (none_left f d (days - d) z) at l.cells_left,
          rw (none_left g d (days - d) z) at l.lists_left,
          sym (add-zero at) ∙ rw (none_left g d (days - d) z) at l.count_left,
        )
