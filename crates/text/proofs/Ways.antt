-- Ways to write a value and to read it: what is written reads back, and what is read is some value's writing. They are put together
-- one after the other, so a form of text is read and written rightly as soon as its parts are. Assumes nothing.
use Prim.Native.Nat.{ℕ, ◌+◌, ◌*◌, ◌%◌, ◌^◌, ◌≤◌, ◌<◌}
use mathlib.Core.Path.{◌≡◌, refl, sym, ap, ◌∙◌}
use mathlib.Core.Bool.{false}
use mathlib.Core.List.{List, ◌++◌, append_assoc}
use native.Mathlib.Nat.{mod-eq_of_lt}
use native.Mathlib.Omega.{arith}
use Rattle.text.specs.Digits.{run, digits, starts_digit, Got, got, no, found, both, past, behind, wide, decimal}
use Rattle.text.proofs.Runs.{never, fixed_run, run_fixed}
use Rattle.text.proofs.Turns.{wide_is}
use Rattle.text.proofs.Decimals.{decimal_digits, digits_decimal}
use Rattle.text.proofs.Texts.{past_append, append_past}

-- the values that are written, how, and the reading; no digit is to follow what is written
pub record Way (A : Type 0) : Type 1 where
  pub ok : A → Type 0
  pub write : A → List ℕ
  pub reads : List ℕ → Got A
  pub back : (x : A) (t : List ℕ) → ok x → starts_digit t ≡ false → reads (write x ++ t) ≡ got x t
  pub only : (s : List ℕ) (x : A) (t : List ℕ) → reads s ≡ got x t → ok x × (s ≡ write x ++ t)

-- ---- numbers

abbrev pub decimals : ℕ → Way ℕ
decimals limit = record {
  ok = λ n. n ≤ limit;
  write = digits;
  reads = decimal limit;
  back = decimal_digits limit;
  only = λ s n t e. ((digits_decimal limit s n t e).most, (digits_decimal limit s n t e).text);
}

module _ (k : ℕ) (h : k ≤ 19) where
  pub wide_back : (n : ℕ) (t : List ℕ) → n < 10 ^ k → wide k (run 10 k n ++ t) ≡ got n t
  wide_back n t l =
      let m : n % 10 ^ k ≡ n = mod-eq_of_lt l in
      let e : 0 * 10 ^ k + n % 10 ^ k ≡ n = omega arith in
      wide_is k (run 10 k n ++ t) h ∙ fixed_run 10 k 0 n t (omega arith) (omega arith) ∙ ap (λ (x : ℕ). got x t) e

  pub wide_only : (s : List ℕ) (n : ℕ) (t : List ℕ) → wide k s ≡ got n t → (n < 10 ^ k) × (s ≡ run 10 k n ++ t)
  wide_only s n t e =
      let r = run_fixed 10 k 0 s n t (omega arith) (sym (wide_is k s h) ∙ e) in
      let v = r.value in
      let q : r.n ≡ n = omega arith in
      (omega (arith, r.small), r.text ∙ ap (λ (x : ℕ). run 10 k x ++ t) q)

  abbrev pub wides : Way ℕ
  wides = record { ok = λ n. n < 10 ^ k; write = run 10 k; reads = wide k; back = λ n t l f. wide_back n t l; only = wide_only }

-- ---- one after the other

module _ {A : Type 0} (w : List ℕ) (a : Way A) where
  pub behind_back : (x : A) (t : List ℕ) → a.ok x → starts_digit t ≡ false → behind w a.reads ((w ++ a.write x) ++ t) ≡ got x t
  behind_back x t h f = rw (append_assoc w (a.write x) t, past_append w (a.write x ++ t)) (a.back x t h f)

  pub behind_only : (s : List ℕ) (x : A) (t : List ℕ) → behind w a.reads s ≡ got x t → a.ok x × (s ≡ (w ++ a.write x) ++ t)
  behind_only s x t e = go (past w s) refl e
    where
      go : (g : Got (Unit {0})) → past w s ≡ g → found g (λ u r. a.reads r) no ≡ got x t → a.ok x × (s ≡ (w ++ a.write x) ++ t)
      go (got u r) p q =
          let o = a.only r x t q in
          (o.0, append_past w s r p ∙ ap (λ (y : List ℕ). w ++ y) o.1 ∙ sym (append_assoc w (a.write x) t))
      go no p q = absurd (never q)

  abbrev pub behinds : Way A
  behinds = record { ok = a.ok; write = λ x. w ++ a.write x; reads = behind w a.reads; back = behind_back; only = behind_only }

module _ {A B : Type 0} (a : Way A) (b : Way B) (calm : (y : B) (t : List ℕ) → starts_digit (b.write y ++ t) ≡ false) where
  pub both_back : (x : A × B) (t : List ℕ) → a.ok x.0 × b.ok x.1 → starts_digit t ≡ false
      → both a.reads b.reads ((a.write x.0 ++ b.write x.1) ++ t) ≡ got x t
  both_back x t h f =
      rw (append_assoc (a.write x.0) (b.write x.1) t, a.back x.0 (b.write x.1 ++ t) h.0 (calm x.1 t), b.back x.1 t h.1 f)

  pub both_only : (s : List ℕ) (x : A × B) (t : List ℕ) → both a.reads b.reads s ≡ got x t
      → (a.ok x.0 × b.ok x.1) × (s ≡ (a.write x.0 ++ b.write x.1) ++ t)
  both_only s x t e = go (a.reads s) refl e
    where
      second : (y : A) (r : List ℕ) → a.reads s ≡ got y r → (g : Got B) → b.reads r ≡ g → found g (λ z u. got (y, z) u) no ≡ got x t
          → (a.ok x.0 × b.ok x.1) × (s ≡ (a.write x.0 ++ b.write x.1) ++ t)
      second y r p (got z u) q k =
          let same : (y, z) ≡ x = cc in
          let f : y ≡ x.0 = ap (λ (v : A × B). v.0) same in
          let g : z ≡ x.1 = ap (λ (v : A × B). v.1) same in
          let i : u ≡ t = cc in
          let o = a.only s y r p in
          let m = b.only r z u q in
          (rw (← f, ← g) (o.0, m.0), o.1 ∙ rw (m.1, ← f, ← g, ← i) (sym (append_assoc (a.write y) (b.write z) u)))
      second y r p no q k = absurd (never k)

      go : (g : Got A) → a.reads s ≡ g → found g (λ y r. found (b.reads r) (λ z u. got (y, z) u) no) no ≡ got x t
          → (a.ok x.0 × b.ok x.1) × (s ≡ (a.write x.0 ++ b.write x.1) ++ t)
      go (got y r) p q = second y r p (b.reads r) refl q
      go no p q = absurd (never q)

  abbrev pub boths : Way (A × B)
  boths = record {
    ok = λ x. a.ok x.0 × b.ok x.1;
    write = λ x. a.write x.0 ++ b.write x.1;
    reads = both a.reads b.reads;
    back = both_back;
    only = both_only;
  }
