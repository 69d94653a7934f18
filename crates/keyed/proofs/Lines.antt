-- One line, read and written: what is written reads back, and what is read was written. Assumes nothing.
use Prim.Native.Nat.{ℕ, ◌+◌, ◌≤◌}
use mathlib.Core.Path.{◌≡◌, refl, sym, ◌∙◌}
use mathlib.Core.Bool.{false}
use mathlib.Core.List.{List, ◌++◌, append_assoc}
use native.Mathlib.Omega.{arith}
use lib.ListN.{length, length-append}
use Rattle.text.specs.Digits.{places, digits, worth, starts_digit, Got, got, no, found, past, decimal}
use Rattle.text.proofs.Runs.{never, length_run}
use Rattle.text.proofs.Decimals.{places_most}
use Rattle.text.proofs.Texts.{append_past}
use Rattle.text.proofs.Ways.{Way, decimals, behinds}
use Rattle.keyed.specs.Lines.{equals, feed, line_text, line}

-- the line without its line feed
abbrev head : List ℕ → Way ℕ
head key = behinds key (behinds equals (decimals 65535))

feed_calm : (t : List ℕ) → starts_digit (feed ++ t) ≡ false
unfolding worth
feed_calm t = refl

-- ---- the two laws

-- reading what was written gives the number, and stops right after it
pub line_back : (key : List ℕ) (n : ℕ) (t : List ℕ) → n ≤ 65535 → line key (line_text key n ++ t) ≡ got n t
unfolding line
line_back key n t h =
    let e = append_assoc ((head key).write n) feed t in
    rw (e, (head key).back n (feed ++ t) h (feed_calm t))

-- what is read is the writing of the number
pub line_only : (key s : List ℕ) (n : ℕ) (t : List ℕ) → line key s ≡ got n t → (n ≤ 65535) × (s ≡ line_text key n ++ t)
unfolding line
line_only key s n t e = go ((head key).reads s) refl e
  where
    fed : (m : ℕ) (r : List ℕ) → (head key).reads s ≡ got m r → (g : Got (Unit {0})) → past feed r ≡ g → found g (λ u q. got m q) no ≡ got n t
        → (n ≤ 65535) × (s ≡ line_text key n ++ t)
    fed m r p (got u q) w k =
        let a : m ≡ n = cc in
        let b : q ≡ t = cc in
        let o = (head key).only s m r p in
        (rw (← a) o.0, o.1 ∙ rw (append_past feed r q w, ← a, ← b) (sym (append_assoc ((head key).write m) feed q)))
    fed m r p no w k = absurd (never k)

    go : (g : Got ℕ) → (head key).reads s ≡ g → found g (λ m r. found (past feed r) (λ u q. got m q) no) no ≡ got n t → (n ≤ 65535) × (s ≡ line_text key n ++ t)
    go (got m r) p q = fed m r p (past feed r) refl q
    go no p q = absurd (never q)

-- ---- how many bytes a line takes

-- the key, the equals sign, the digits and the line feed
line_length_law : (key : List ℕ) (n : ℕ) → length (line_text key n) ≡ length key + places n + 2
line_length_law key n =
    omega (arith, length-append (key ++ (equals ++ digits n)) feed, length-append key (equals ++ digits n), length-append equals (digits n), length_run 10 (places n) n)

pub line_long : (key : List ℕ) (n : ℕ) → 2 ≤ length (line_text key n)
line_long key n = omega (arith, line_length_law key n)

pub line_short : (key : List ℕ) (n : ℕ) → n ≤ 65535 → length (line_text key n) ≤ length key + 22
line_short key n h = omega (arith, line_length_law key n, places_most n (omega arith))

-- ---- the steps of reading one

module _ (key s : List ℕ) where
  pub no_key : past key s ≡ no → no ≡ line key s
  unfolding line
  no_key e = rw e

  module _ {t : List ℕ} (keyed : past key s ≡ got tt t) where
    pub no-equals : past equals t ≡ no → no ≡ line key s
    unfolding line
    no-equals e = rw (keyed, e)

    module _ {u : List ℕ} (signed : past equals t ≡ got tt u) where
      pub no_number : decimal 65535 u ≡ no → no ≡ line key s
      unfolding line
      no_number e = rw (keyed, signed, e)

      module _ {n : ℕ} {v : List ℕ} (numbered : decimal 65535 u ≡ got n v) where
        pub no_feed : past feed v ≡ no → no ≡ line key s
        unfolding line
        no_feed e = rw (keyed, signed, numbered, e)

        pub is-line : {w : List ℕ} → past feed v ≡ got tt w → got n w ≡ line key s
        unfolding line
        is-line e = rw (keyed, signed, numbered, e)
