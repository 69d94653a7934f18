-- The record that holds a state: it holds it, and it is what the calls make. Assumes nothing.
use Prim.Native.Nat.{ℕ, ◌+◌, ◌-◌, ◌≤◌}
use mathlib.Core.Path.{◌≡◌, refl, sym, ap, ◌∙◌, subst⁻¹}
use mathlib.Core.List.{List, [], ◌++◌}
use native.Mathlib.Nat.{zero-add}
use native.Mathlib.Omega.{arith}
use lib.ListN.{length, take, drop, replicate, length-replicate, replicate-append-replicate, length-append}
use lib.Seq.{sets, drop_at, take-append_seam}
use Rattle.paper.proofs.Stores.{sets_append, sets_front}
use Rattle.conversion.specs.Flat.{flat}
use Rattle.kept.specs.declared.Store.{Store}
use Rattle.kept.specs.declared.Kept.{Kept}
use Rattle.kept.specs.State.{State, calendar, anew, Good}
use Rattle.kept.specs.Operations.{with_rules, with_row, with_years, after}
use Rattle.kept.specs.Held.{years, held, padded, store_of, record_of, Ready, Holds}
use Rattle.kept.specs.Inner.{with_store, store_for}
use Rattle.kept.proofs.Stores.{years_stored}

-- ---- a list at the front of a list of zeros

module _ (n : ℕ) (l : List ℕ) (h : length l ≤ n) where
  rest_zeros : drop {A = ℕ} (length l) (replicate n 0) ≡ replicate (n - length l) 0
  rest_zeros =
      let e : length l + (n - length l) ≡ n = omega arith in
      let z : replicate {A = ℕ} (length l) 0 ++ replicate (n - length l) 0 ≡ replicate n 0 = replicate-append-replicate (length l) (n - length l) 0 ∙ ap (λ (k : ℕ). replicate k 0) e in
      ap (drop (length l)) (sym z) ∙ drop_at (replicate (length l) 0) (replicate (n - length l) 0) (length l) (length-replicate (length l) 0)

  pub zeros_front : sets (replicate n 0) 0 l ≡ padded n l
  zeros_front = sets_front l (replicate n 0) (omega (arith, length-replicate {A = ℕ} n 0)) ∙ ap (λ (z : List ℕ). l ++ z) rest_zeros

-- one list behind another
pub zeros_both : (n : ℕ) (a b l m : List ℕ) → length a + length b ≤ n → l ≡ sets (replicate n 0) 0 a → m ≡ sets l (length a) b → m ≡ padded n (a ++ b)
zeros_both n a b l m h p q =
    q
    ∙ ap (λ (z : List ℕ). sets z (length a) b) p
    ∙ ap (λ (k : ℕ). sets (sets (replicate n 0) 0 a) k b) (sym (zero-add (length a)))
    ∙ sym (sets_append a b (replicate n 0) 0)
    ∙ zeros_front n (a ++ b) (omega (arith, length-append a b))

-- ---- a record that a call made

-- the record of a good state holds it
pub held_record : (σ : State) → Good σ → held (record_of σ) ≡ σ
held_record σ g = λ i.
    record {
      table = σ.table;
      rows = take-append_seam σ.rows (replicate (1664 - length σ.rows) 0) i;
      rules = take-append_seam σ.rules (replicate (2560 - length σ.rules) 0) i;
      stored = years_stored σ.stored g.follow i;
    }

pub made : (k : Kept) (σ : State) → Good σ → k ≡ record_of σ → Holds k σ
made k σ g e =
    let s = ap held e ∙ held_record σ g in
    record { state = s; ready = record { good = subst⁻¹ (λ (τ : State). Good τ) s g; is = e ∙ ap record_of (sym s) } }

-- ---- other stored years

module _ (k : Kept) (w : Ready k) where
  abbrev σ : State
  σ = held k

  stored_other : (ys : List ℕ) (s : Store) (r : Kept) → s ≡ store_for (calendar σ) σ.rules ys → r ≡ with_store k s → r ≡ record_of (with_years σ ys)
  stored_other ys s r e q = q ∙ ap (with_store k) e ∙ ap (λ (z : Kept). with_store z (store_for (calendar σ) σ.rules ys)) w.is

  -- what a question leaves: other years where it is answered, and else the state
  pub settled : (ys : List ℕ) → Good (with_years σ ys) → {r : Kept} → r ≡ with_store k (store_for (calendar σ) σ.rules ys) → Holds r (with_years σ ys)
  settled ys g {r} q = made r (with_years σ ys) g (stored_other ys (store_for (calendar σ) σ.rules ys) r refl q)

  pub untouched : {r : Kept} → r ≡ k → Holds r σ
  untouched {r} q = made r σ w.good (q ∙ w.is)

  pub forgot : Good (with_years σ []) → (s : Store) (r : Kept) → s ≡ store_of [] → r ≡ with_store k s → Holds r (with_years σ [])
  forgot g s r e q = made r (with_years σ []) g (stored_other [] s r e q)

  -- other rules
  pub holds_rules : (list after : List ℕ) (s : Store) → Good (with_rules σ list) → length list ≤ 2560 → after ≡ sets (replicate 2560 0) 0 list → s ≡ store_of []
      → Holds (record { table = k.table; rows = k.rows; row_len = k.row_len; rules = after; rule_len = length list; store = s }) (with_rules σ list)
  holds_rules list after s g h e q =
      let z = e ∙ zeros_front 2560 list h in
      made _ (with_rules σ list) g (λ i. record { table = k.table; rows = (w.is i).rows; row_len = (w.is i).row_len; rules = z i; rule_len = length list; store = q i })

  -- a row behind those held
  module _ (before row rows : List ℕ) (b : before ≡ σ.rows) (n : length row ≡ 13) (p : rows ≡ padded 1664 (before ++ row)) where
    whole : length before + 13 ≡ length (σ.rows ++ row)
    whole = omega (arith, length-append σ.rows row, ap length b)

    laid : rows ≡ padded 1664 (σ.rows ++ row)
    laid = p ∙ ap (λ (z : List ℕ). padded 1664 (z ++ row)) b

    pub grown : (list : List ℕ) → list ≡ take (length before + 13) rows → list ≡ σ.rows ++ row
    grown list e =
        e
        ∙ ap (take (length before + 13)) laid
        ∙ ap (λ (k : ℕ). take k (padded 1664 (σ.rows ++ row))) whole
        ∙ take-append_seam (σ.rows ++ row) (replicate (1664 - length (σ.rows ++ row)) 0)

    pub holds_row : (list rules : List ℕ) (s : Store) → list ≡ take (length before + 13) rows → rules ≡ σ.rules → Good (with_row σ row)
        → s ≡ store_of (anew (flat k.table list) rules (years k.store))
        → Holds (record { table = k.table; rows = rows; row_len = length before + 13; rules = k.rules; rule_len = k.rule_len; store = s }) (with_row σ row)
    holds_row list rules s e f g z =
        let u =
        z
        ∙ ap (λ (x : List ℕ). store_of (anew (flat k.table x) rules (years k.store))) (grown list e)
        ∙ ap (λ (x : List ℕ). store_of (anew (flat k.table (σ.rows ++ row)) x (years k.store))) f in
        made _ (with_row σ row) g (λ i. record { table = k.table; rows = laid i; row_len = whole i; rules = (w.is i).rules; rule_len = (w.is i).rule_len; store = u i })
