-- Three numbers with dashes between them, step by step, and that each is at most 65,535. Assumes nothing.
use Rattle.std.specs.Prelude.{None, Some}
use Prim.Native.Nat.{ℕ, ◌≤◌, ◌<◌, ◌^◌}
use mathlib.Core.Path.{◌≡◌, refl}
use mathlib.Core.Bool.{Bool, true, false, cond}
use mathlib.Core.List.{List}
use native.Mathlib.Nat.{pow-le-pow_right}
use native.Mathlib.Omega.{arith}
use borrow.Author.Tests.{leb-true, le-leb, lt-leb, ne_eqb}
use lib.Dec.{leb, eqb}
use Rattle.text.specs.Digits.{is_end, Got, got, no, found, past, behind, wide, decimal}
use Rattle.text.specs.Dashed.{number, numbers, dash, ended}
use Rattle.text.proofs.Decimals.{digits_decimal}
use Rattle.text.proofs.Runs.{never}
use Rattle.text.proofs.Ways.{wide_only}

-- ---- a number

pub number_decimal : (w : ℕ) (s : List ℕ) → w ≡ 0 → number w s ≡ decimal 65535 s
number_decimal w s e = rw e

module _ (w : ℕ) (s : List ℕ) (n : w ≡ 0 → ⊥) where
  pub number_wide : w ≤ 4 → number w s ≡ wide w s
  number_wide h = let z = ne_eqb w 0 n in let l = le-leb w 4 h in rw (z, l)

  pub number_none : 4 < w → no ≡ number w s
  number_none h = let z = ne_eqb w 0 n in let l = lt-leb w 4 h in rw (z, l)

-- a number of four digits at most, or of 65,535 at most, is one of 65,535 at most
pub number_small : (w : ℕ) (s : List ℕ) (n : ℕ) (t : List ℕ) → number w s ≡ got n t → n ≤ 65535
number_small w s n t e = go (eqb w 0) (leb w 4) refl e
  where
    go : (z f : Bool) → leb w 4 ≡ f → cond z (decimal 65535 s) (cond f (wide w s) no) ≡ got n t → n ≤ 65535
    go true f p q = (digits_decimal 65535 s n t q).most
    go false true p q =
        let z : 0 < 10 = omega arith in
        let h : w ≤ 4 = leb-true w 4 p in
        let m : 10 ^ w ≤ 10 ^ 4 = pow-le-pow_right z h in
        omega (arith, (wide_only w (omega arith) s n t q).0)
    go false false p q = absurd (never q)

-- ---- behind a dash

pub next_small : (w : ℕ) (s : List ℕ) (n : ℕ) (t : List ℕ) → behind dash (number w) s ≡ got n t → n ≤ 65535
next_small w s n t e = go (past dash s) e
  where
    go : (g : Got (Unit {0})) → found g (λ u r. number w r) no ≡ got n t → n ≤ 65535
    go (got u r) q = number_small w r n t q
    go no q = absurd (never q)

pub next_said : (w : ℕ) (s : List ℕ) {t : List ℕ} → past dash s ≡ got tt t → number w t ≡ behind dash (number w) s
next_said w s e = rw e

pub next_none : (w : ℕ) (s : List ℕ) → past dash s ≡ no → no ≡ behind dash (number w) s
next_none w s e = rw e

-- ---- three

module _ (f o : ℕ) (s : List ℕ) where
  pub no_first : number f s ≡ no → None ≡ ended (numbers f o s)
  no_first e = rw e

  module _ {y : ℕ} {t : List ℕ} (e : number f s ≡ got y t) where
    pub no_second : behind dash (number o) t ≡ no → None ≡ ended (numbers f o s)
    no_second e2 = rw (e, e2)

    module _ {m : ℕ} {u : List ℕ} (e2 : behind dash (number o) t ≡ got m u) where
      pub no_third : behind dash (number o) u ≡ no → None ≡ ended (numbers f o s)
      no_third e3 = rw (e, e2, e3)

      module _ {d : ℕ} {v : List ℕ} (e3 : behind dash (number o) u ≡ got d v) where
        pub all_three : is_end v ≡ true → Some (y, m, d) ≡ ended (numbers f o s)
        all_three h = rw (e, e2, e3, h)

        pub more-after : is_end v ≡ false → None ≡ ended (numbers f o s)
        more-after h = rw (e, e2, e3, h)
