-- A list that a call made holds one state, and reading it gives the record of that state. Assumes nothing.
use Prim.Native.Nat.{ℕ, ◌-◌, ◌*◌, ◌≤◌}
use mathlib.Core.Path.{◌≡◌, sym, ap, ◌∙◌, subst}
use mathlib.Core.List.{List, ◌++◌, append_assoc, append-nil}
use native.Mathlib.Omega.{arith}
use lib.ListN.{length, take, drop, replicate, length-append}
use lib.Seq.{drop-drop, drop_at, take_at, take-append_seam}
use Rattle.kept.specs.declared.Kept.{Kept}
use Rattle.kept.specs.State.{State, Good}
use Rattle.kept.specs.Held.{padded, record_of, Holds}
use Rattle.kept.proofs.Records.{made}
use Rattle.shelf.specs.Numbers.{halves, numbers_of, laid, Made}
use Rattle.shelf.specs.Inner.{wholes, table_of, kept_of, rows_of, placed}
use Rattle.shelf.proofs.Halves.{length_halves, wholes_back}
use Rattle.shelf.proofs.Sizes.{Sized, length_numbers, fitting}
use Rattle.shelf.proofs.Lengths.{few_rows, few_rule_numbers, good_sizes}

-- ---- reading undoes writing

no_padding : (n : ℕ) (l : List ℕ) → length l ≡ n → padded n l ≡ l
no_padding n l e =
    let z : n - length l ≡ 0 = omega arith in
    ap (λ (m : ℕ). l ++ replicate m 0) z ∙ append-nil l

module _ (k : Kept) (s : Sized k) (rest : List ℕ) where
  abbrev all : List ℕ
  all = numbers_of k ++ rest

  abbrev before : List ℕ
  before = halves k.store.years.before.days

  abbrev this : List ℕ
  this = halves k.store.years.this.days

  from_rows : drop 8 all ≡ k.rows ++ (k.rules ++ (before ++ (this ++ rest)))
  unfolding numbers_of
  from_rows = simp append_assoc

  from_rules : drop 1672 all ≡ k.rules ++ (before ++ (this ++ rest))
  from_rules = sym (drop-drop 1664 8 all) ∙ ap (drop 1664) from_rows ∙ drop_at k.rows _ 1664 s.rows

  from_before : drop 4232 all ≡ before ++ (this ++ rest)
  from_before = sym (drop-drop 2560 1672 all) ∙ ap (drop 2560) from_rules ∙ drop_at k.rules _ 2560 s.rules

  from_this : drop 4360 all ≡ this ++ rest
  from_this =
      let n : length before ≡ 128 = length_halves k.store.years.before.days ∙ ap (λ (m : ℕ). m * 2) s.before in
      sym (drop-drop 128 4232 all) ∙ ap (drop 128) from_before ∙ drop_at before _ 128 n

  rows_back : padded 1664 (take 1664 (drop 8 all)) ≡ k.rows
  rows_back = ap (λ (l : List ℕ). padded 1664 (take 1664 l)) from_rows ∙ ap (padded 1664) (take_at k.rows _ 1664 s.rows) ∙ no_padding 1664 k.rows s.rows

  rules_back : padded 2560 (take 2560 (drop 1672 all)) ≡ k.rules
  rules_back = ap (λ (l : List ℕ). padded 2560 (take 2560 l)) from_rules ∙ ap (padded 2560) (take_at k.rules _ 2560 s.rules) ∙ no_padding 2560 k.rules s.rules

  before_back : wholes 64 (drop 4232 all) ≡ k.store.years.before.days
  before_back = ap (wholes 64) from_before ∙ wholes_back k.store.years.before.days (this ++ rest) s.before

  this_back : wholes 64 (drop 4360 all) ≡ k.store.years.this.days
  this_back = ap (wholes 64) from_this ∙ wholes_back k.store.years.this.days rest s.this

  kept_back : kept_of all ≡ k
  unfolding kept_of numbers_of
  kept_back = λ i.
      record {
        table = k.table;
        rows = rows_back i;
        row_len = k.row_len;
        rules = rules_back i;
        rule_len = k.rule_len;
        store =
            record {
              count = k.store.count;
              year = k.store.year;
              years = record { before = record { days = before_back i }; this = record { days = this_back i } };
            };
      }

-- ---- a list that a call made

module _ (a : List ℕ) (σ : State) where
  pub made_kept : Made a σ → kept_of a ≡ record_of σ
  made_kept m = ap kept_of m.is ∙ kept_back (record_of σ) (good_sizes σ m.good) (drop 4488 a)

  -- what the calls ask of a state and promise of it
  pub made_holds : Made a σ → Holds (kept_of a) σ
  made_holds m = made (kept_of a) σ m.good (made_kept m)

  pub made_table : Made a σ → table_of a ≡ σ.table
  unfolding kept_of
  made_table m = ap (λ (k : Kept). k.table) (made_kept m)

  pub made_rows : Made a σ → rows_of a ≡ σ.rows
  unfolding numbers_of
  made_rows m =
      ap rows_of m.is
      ∙ ap (take (length σ.rows)) (from_rows (record_of σ) (good_sizes σ m.good) (drop 4488 a) ∙ append_assoc σ.rows _ _)
      ∙ take-append_seam σ.rows _

  -- a good state is laid where there is room
  pub laid_made : Good σ → 4488 ≤ length a → Made (laid a σ) σ
  laid_made g h =
      let n = length_numbers (record_of σ) (good_sizes σ g) in
      let e = drop_at (numbers_of (record_of σ)) (drop 4488 a) 4488 n in
      record {
        good = g;
        room = omega (arith, n, length-append (numbers_of (record_of σ)) (drop 4488 a));
        is = ap (λ (l : List ℕ). numbers_of (record_of σ) ++ l) (sym e);
      }

  -- what is written of the record of a state
  pub put_laid : (k : Kept) → Holds k σ → 4488 ≤ length a → placed k a ≡ laid a σ
  put_laid k h r =
      let g = subst (λ (τ : State). Good τ) h.state h.ready.good in
      let l = few_rows σ g in
      let m = few_rule_numbers σ g in
      ap (λ (j : Kept). placed j a) (h.ready.is ∙ ap record_of h.state) ∙ fitting (record_of σ) a r (omega arith) (omega arith)

-- a list holds one state
pub made_one : (a : List ℕ) (σ τ : State) → Made a σ → Made a τ → σ ≡ τ
made_one a σ τ m n = sym (made_holds a σ m).state ∙ (made_holds a τ n).state
