-- A text is UTF-8 exactly if it is some characters' writing. Assumes nothing.
use Prim.Native.Nat.{ℕ, zero, suc, ◌+◌, ◌-◌, ◌*◌, ◌/◌, ◌≤◌, ◌<◌}
use mathlib.Core.Path.{◌≡◌, refl, sym, ap, ◌∙◌}
use mathlib.Core.Bool.{Bool, true, false, cond, ◌&&◌, not, true≢false}
use mathlib.Core.List.{List, [], ◌∷◌, ◌++◌}
use mathlib.Core.Logic.{⊎_elim}
use native.Mathlib.Omega.{arith}
use borrow.Author.Tests.{leb-true, le-leb, lt-leb, eqb-true}
use lib.Dec.{leb, eqb}
use lib.ListN.{length}
use Rattle.paper.proofs.Tests.{and_left, and_right, split}
use Rattle.utf8.specs.Utf8.{follow, low, high, comes, utf8}
use Rattle.utf8.specs.Encoded.{scalar, tail, encode, encoded, scalars}
use Rattle.utf8.specs.Claims.{Decoded}
use Rattle.utf8.proofs.Bytes.{follow_ascii, low_tail, high_tail, comes_free, passed}

-- ---- the first byte and the second

module _ (a : ℕ) where
  follow_two : 193 < a → a ≤ 223 → follow a ≡ 1
  unfolding follow
  follow_two l h = let t = lt-leb a 127 (omega arith) in let u = lt-leb a 193 l in let v = le-leb a 223 h in rw (t, u, v)

  follow_three : 223 < a → a ≤ 239 → follow a ≡ 2
  unfolding follow
  follow_three l h =
      let t = lt-leb a 127 (omega arith) in
      let u = lt-leb a 193 (omega arith) in
      let v = lt-leb a 223 l in
      let w = le-leb a 239 h in
      rw (t, u, v, w)

  follow_four : 239 < a → a ≤ 244 → follow a ≡ 3
  unfolding follow
  follow_four l h =
      let t = lt-leb a 127 (omega arith) in
      let u = lt-leb a 193 (omega arith) in
      let v = lt-leb a 223 (omega arith) in
      let w = lt-leb a 239 l in
      let x = le-leb a 244 h in
      rw (t, u, v, w, x)

-- what the bounds of the second byte say
record Second (a b : ℕ) : Type 0 where
  least : 128 ≤ b
  most : b ≤ 191
  overlong : a ≡ 224 → 160 ≤ b
  overlong_four : a ≡ 240 → 144 ≤ b
  surrogate : a ≡ 237 → b ≤ 159
  large : a ≡ 244 → b ≤ 143

second_low : (a b : ℕ) → Second a b → low a ≤ b
unfolding low
second_low a b s = go (eqb a 224) refl (eqb a 240) refl
  where
    go : (p : Bool) → eqb a 224 ≡ p → (q : Bool) → eqb a 240 ≡ q → cond p 160 (cond q 144 128) ≤ b
    go true p q r = s.overlong (eqb-true a 224 p)
    go false p true q = s.overlong_four (eqb-true a 240 q)
    go false p false q = s.least

second_high : (a b : ℕ) → Second a b → b ≤ high a
unfolding high
second_high a b s = go (eqb a 237) refl (eqb a 244) refl
  where
    go : (p : Bool) → eqb a 237 ≡ p → (q : Bool) → eqb a 244 ≡ q → b ≤ cond p 159 (cond q 143 191)
    go true p q r = s.surrogate (eqb-true a 237 p)
    go false p true q = s.large (eqb-true a 244 q)
    go false p false q = s.most

second_of : (a b : ℕ) → 128 ≤ low a → high a ≤ 191 → low a ≤ b → b ≤ high a → Second a b
unfolding low high
second_of a b m n l h = record {
  least = omega arith;
  most = omega arith;
  overlong = λ e. rw e at l;
  overlong_four = λ e. rw e at l;
  surrogate = λ e. rw e at h;
  large = λ e. rw e at h;
}

-- ---- written characters are UTF-8

tail_comes : (k least most b : ℕ) (s : List ℕ) → least ≤ b → b ≤ most → comes (suc k) least most (b ∷ s) ≡ comes k 128 191 s
tail_comes k least most b s l h = let t = le-leb least b l in let u = le-leb b most h in rw (t, u)

first_comes : (a k : ℕ) (s : List ℕ) → follow a ≡ k → k ≤ 3 → utf8 (a ∷ s) ≡ comes k (low a) (high a) s
first_comes a k s e h = let t = le-leb k 3 h in rw (e, t)

scalar_facts : (c : ℕ) → scalar c ≡ true → (c ≤ 1114111) × (55296 ≤ c → c ≤ 57343 → ⊥)
unfolding scalar
scalar_facts c h =
    let p = and_left (leb c 1114111) (not (leb 55296 c && leb c 57343)) h in
    let q = and_right (leb c 1114111) (not (leb 55296 c && leb c 57343)) h in
    (leb-true c 1114111 p, λ x y. true≢false (sym q ∙ rw (le-leb 55296 c x, le-leb c 57343 y)))

module _ (c : ℕ) (s : List ℕ) (g : scalar c ≡ true) where
  m : c ≤ 1114111
  m = (scalar_facts c g).0

  one_utf8 : c ≤ 127 → utf8 (encode c ++ s) ≡ utf8 s
  unfolding encode
  one_utf8 h = let t = le-leb c 127 h in rw t (first_comes c 0 s (follow_ascii c h) (omega arith) ∙ comes_free (low c) (high c) s)

  two_utf8 : 127 < c → c ≤ 2047 → utf8 (encode c ++ s) ≡ utf8 s
  unfolding encode
  two_utf8 l h =
      let t = lt-leb c 127 l in
      let u = le-leb c 2047 h in
      let a = 192 + c / 64 in
      let b = tail c in
      let r : Second a b = record {
        least = omega arith;
        most = omega arith;
        overlong = λ e. omega arith;
        overlong_four = λ e. omega arith;
        surrogate = λ e. omega arith;
        large = λ e. omega arith;
      } in
      rw (t, u)
      (first_comes a 1 (b ∷ s) (follow_two a (omega arith) (omega arith)) (omega arith)
      ∙ tail_comes 0 (low a) (high a) b s (second_low a b r) (second_high a b r))

  three_utf8 : 2047 < c → c ≤ 65535 → utf8 (encode c ++ s) ≡ utf8 s
  unfolding encode
  three_utf8 l h =
      let t = lt-leb c 127 (omega arith) in
      let u = lt-leb c 2047 l in
      let v = le-leb c 65535 h in
      let n = (scalar_facts c g).1 in
      let a = 224 + c / 4096 in
      let b = tail (c / 64) in
      let d = tail c in
      let r : Second a b = record {
        least = omega arith;
        most = omega arith;
        overlong = λ e. omega arith;
        overlong_four = λ e. omega arith;
        surrogate = λ e. ⊎_elim (λ x. ⊎_elim (λ y. absurd (n x y)) (λ y. omega arith) (split c 57343)) (λ x. omega arith) (split 55296 c);
        large = λ e. omega arith;
      } in
      rw (t, u, v)
      (first_comes a 2 (b ∷ d ∷ s) (follow_three a (omega arith) (omega arith)) (omega arith)
      ∙ tail_comes 1 (low a) (high a) b (d ∷ s) (second_low a b r) (second_high a b r)
      ∙ tail_comes 0 128 191 d s (omega arith) (omega arith))

  four_utf8 : 65535 < c → utf8 (encode c ++ s) ≡ utf8 s
  unfolding encode
  four_utf8 l =
      let t = lt-leb c 127 (omega arith) in
      let u = lt-leb c 2047 (omega arith) in
      let v = lt-leb c 65535 l in
      let a = 240 + c / 262144 in
      let b = tail (c / 4096) in
      let d = tail (c / 64) in
      let f = tail c in
      let o = m in
      let r : Second a b = record {
        least = omega arith;
        most = omega arith;
        overlong = λ e. omega arith;
        overlong_four = λ e. omega arith;
        surrogate = λ e. omega arith;
        large = λ e. omega arith;
      } in
      rw (t, u, v)
      (first_comes a 3 (b ∷ d ∷ f ∷ s) (follow_four a (omega arith) (omega arith)) (omega arith)
      ∙ tail_comes 2 (low a) (high a) b (d ∷ f ∷ s) (second_low a b r) (second_high a b r)
      ∙ tail_comes 1 128 191 d (f ∷ s) (omega arith) (omega arith)
      ∙ tail_comes 0 128 191 f s (omega arith) (omega arith))

  pub encode_utf8 : utf8 (encode c ++ s) ≡ utf8 s
  encode_utf8 =
      ⊎_elim (λ h. one_utf8 h)
      (λ l. ⊎_elim (λ h. two_utf8 l h) (λ k. ⊎_elim (λ h. three_utf8 k h) (λ h. four_utf8 h) (split c 65535)) (split c 2047))
      (split c 127)

-- characters, written, are UTF-8
pub encoded_utf8 : (cs : List ℕ) → scalars cs ≡ true → utf8 (encoded cs) ≡ true
encoded_utf8 [] h = refl
encoded_utf8 (c ∷ cs) h = let p = passed (scalar c) h in encode_utf8 c (encoded cs) p.0 ∙ encoded_utf8 cs p.1

-- ---- and UTF-8 is some characters' writing

-- an byte that was awaited came
record Came (k from to : ℕ) (s : List ℕ) : Type 0 where
  b : ℕ
  t : List ℕ
  same : s ≡ b ∷ t
  least : from ≤ b
  most : b ≤ to
  then : comes k 128 191 t ≡ true

came : (k least most : ℕ) (s : List ℕ) → comes (suc k) least most s ≡ true → Came k least most s
came k least most [] h = absurd (true≢false (sym h))
came k least most (b ∷ t) h =
    let p = passed (leb least b && leb b most) h in
    record {
      b = b;
      t = t;
      same = refl;
      least = leb-true least b (and_left (leb least b) (leb b most) p.0);
      most = leb-true b most (and_right (leb least b) (leb b most) p.0);
      then = p.1;
    }

scalar_is : (c : ℕ) → c ≤ 1114111 → (55296 ≤ c → c ≤ 57343 → ⊥) → scalar c ≡ true
unfolding scalar
scalar_is c h n = rw (le-leb c 1114111 h) (go (leb 55296 c) refl (leb c 57343) refl)
  where
    go : (p : Bool) → leb 55296 c ≡ p → (q : Bool) → leb c 57343 ≡ q → not (p && q) ≡ true
    go true p true q = absurd (n (leb-true 55296 c p) (leb-true c 57343 q))
    go true p false q = refl
    go false p q r = refl

-- one character before others
decoded_more : (c : ℕ) (s t : List ℕ) → scalar c ≡ true → s ≡ encode c ++ t → Decoded t → Decoded s
decoded_more c s t g e d = record { characters = c ∷ d.characters; good = rw g d.good; same = e ∙ ap (λ (x : List ℕ). encode c ++ x) d.same }

-- the writing of a character of two, three and four bytes
encode_two : (a b : ℕ) → 193 < a → a ≤ 223 → 128 ≤ b → b ≤ 191 → encode ((a - 192) * 64 + (b - 128)) ≡ a ∷ b ∷ []
unfolding encode
encode_two a b l h p q =
    let c = (a - 192) * 64 + (b - 128) in
    let t = lt-leb c 127 (omega arith) in
    let u = le-leb c 2047 (omega arith) in
    let x : 192 + c / 64 ≡ a = omega arith in
    let y : tail c ≡ b = omega arith in
    rw (t, u, x, y)

module _ (a b d : ℕ) (l : 223 < a) (h : a ≤ 239) (s : Second a b) (p : 128 ≤ d) (q : d ≤ 191) where
  abbrev three_of : ℕ
  three_of = (a - 224) * 4096 + (b - 128) * 64 + (d - 128)

  three_least : 2047 < three_of
  three_least = let x = s.least in ⊎_elim (λ y. let z = s.overlong (omega arith) in omega arith) (λ y. omega arith) (split a 224)

  three_most : three_of ≤ 65535
  three_most = let x = s.most in omega arith

  three_scalar : scalar three_of ≡ true
  three_scalar =
      let x = s.least in
      let y = s.most in
      scalar_is three_of (omega (arith, three_most)) (λ u v. let w : a ≡ 237 = omega arith in let z = s.surrogate w in omega arith)

  encode_three : encode three_of ≡ a ∷ b ∷ d ∷ []
  unfolding encode
  encode_three =
      let t = lt-leb three_of 127 (omega (arith, three_least)) in
      let u = lt-leb three_of 2047 three_least in
      let v = le-leb three_of 65535 three_most in
      let i = s.least in
      let j = s.most in
      let x : 224 + three_of / 4096 ≡ a = omega arith in
      let k : three_of / 64 ≡ (a - 224) * 64 + (b - 128) = omega arith in
      let y : tail (three_of / 64) ≡ b = rw k (omega arith) in
      let z : tail three_of ≡ d = omega arith in
      rw (t, u, v, x, y, z)

module _ (a b d f : ℕ) (l : 239 < a) (h : a ≤ 244) (s : Second a b) (p : 128 ≤ d) (q : d ≤ 191) (m : 128 ≤ f) (n : f ≤ 191) where
  abbrev four_of : ℕ
  four_of = (a - 240) * 262144 + (b - 128) * 4096 + (d - 128) * 64 + (f - 128)

  four_least : 65535 < four_of
  four_least = let x = s.least in ⊎_elim (λ y. let z = s.overlong_four (omega arith) in omega arith) (λ y. omega arith) (split a 240)

  four_most : four_of ≤ 1114111
  four_most = let x = s.most in ⊎_elim (λ y. omega arith) (λ y. let z = s.large (omega arith) in omega arith) (split a 243)

  four_scalar : scalar four_of ≡ true
  four_scalar = scalar_is four_of four_most (λ u v. omega (arith, four_least))

  encode_four : encode four_of ≡ a ∷ b ∷ d ∷ f ∷ []
  unfolding encode
  encode_four =
      let g = four_least in
      let t = lt-leb four_of 127 (omega arith) in
      let u = lt-leb four_of 2047 (omega arith) in
      let v = lt-leb four_of 65535 g in
      let i = s.least in
      let j = s.most in
      let w : 240 + four_of / 262144 ≡ a = omega arith in
      let x : tail (four_of / 4096) ≡ b = omega arith in
      let y : tail (four_of / 64) ≡ d = omega arith in
      let z : tail four_of ≡ f = omega arith in
      rw (t, u, v, w, x, y, z)

encode_one : (a : ℕ) → a ≤ 127 → encode a ≡ a ∷ []
unfolding encode
encode_one a h = rw (le-leb a 127 h)

follow_none : (a : ℕ) → 127 < a → a ≤ 193 → follow a ≡ 4
unfolding follow
follow_none a l h = rw (lt-leb a 127 l, le-leb a 193 h)

follow_large : (a : ℕ) → 244 < a → follow a ≡ 4
unfolding follow
follow_large a l =
    let t = lt-leb a 127 (omega arith) in
    let u = lt-leb a 193 (omega arith) in
    let v = lt-leb a 223 (omega arith) in
    let w = lt-leb a 239 (omega arith) in
    let x = lt-leb a 244 l in
    rw (t, u, v, w, x)

-- the cases of a first byte
module _ (a : ℕ) (s : List ℕ) (p : leb (follow a) 3 ≡ true) (c : comes (follow a) (low a) (high a) s ≡ true)
    (more : (t : List ℕ) → length t ≤ length s → utf8 t ≡ true → Decoded t) where
  decoded_one : a ≤ 127 → Decoded (a ∷ s)
  decoded_one h =
      let e = rw (follow_ascii a h) at c in
      decoded_more a (a ∷ s) s (scalar_is a (omega arith) (λ x y. omega arith)) (rw (encode_one a h))
      (more s (omega arith) (sym (comes_free (low a) (high a) s) ∙ e))

  decoded_two : 193 < a → a ≤ 223 → Decoded (a ∷ s)
  decoded_two l h =
      let x = came 0 (low a) (high a) s (rw (follow_two a l h) at c) in
      let y = second_of a x.b (low_tail a) (high_tail a) x.least x.most in
      let i = y.least in
      let j = y.most in
      decoded_more ((a - 192) * 64 + (x.b - 128)) (a ∷ s) x.t (scalar_is ((a - 192) * 64 + (x.b - 128)) (omega arith) (λ u v. omega arith))
      (ap (λ (y : List ℕ). a ∷ y) x.same ∙ sym (ap (λ (y : List ℕ). y ++ x.t) (encode_two a x.b l h i j))) (more x.t (omega (arith, ap length x.same)) x.then)

  decoded_three : 223 < a → a ≤ 239 → Decoded (a ∷ s)
  decoded_three l h =
      let x = came 1 (low a) (high a) s (rw (follow_three a l h) at c) in
      let y = second_of a x.b (low_tail a) (high_tail a) x.least x.most in
      let z = came 0 128 191 x.t x.then in
      decoded_more (three_of a x.b z.b l h y z.least z.most) (a ∷ s) z.t (three_scalar a x.b z.b l h y z.least z.most)
      (ap (λ (y : List ℕ). a ∷ y) (x.same ∙ ap (λ (y : List ℕ). x.b ∷ y) z.same)
      ∙ sym (ap (λ (y : List ℕ). y ++ z.t) (encode_three a x.b z.b l h y z.least z.most)))
      (more z.t (omega (arith, ap length x.same, ap length z.same)) z.then)

  decoded_four : 239 < a → a ≤ 244 → Decoded (a ∷ s)
  decoded_four l h =
      let x = came 2 (low a) (high a) s (rw (follow_four a l h) at c) in
      let y = second_of a x.b (low_tail a) (high_tail a) x.least x.most in
      let z = came 1 128 191 x.t x.then in
      let w = came 0 128 191 z.t z.then in
      decoded_more (four_of a x.b z.b w.b l h y z.least z.most w.least w.most) (a ∷ s) w.t
      (four_scalar a x.b z.b w.b l h y z.least z.most w.least w.most)
      (ap (λ (y : List ℕ). a ∷ y) (x.same ∙ ap (λ (y : List ℕ). x.b ∷ y) (z.same ∙ ap (λ (y : List ℕ). z.b ∷ y) w.same))
      ∙ sym (ap (λ (y : List ℕ). y ++ w.t) (encode_four a x.b z.b w.b l h y z.least z.most w.least w.most)))
      (more w.t (omega (arith, ap length x.same, ap length z.same, ap length w.same)) w.then)

  decoded_first : Decoded (a ∷ s)
  decoded_first =
      let f = leb-true (follow a) 3 p in
      ⊎_elim decoded_one (λ k.
      ⊎_elim (λ h. absurd (let e = follow_none a k h in let bad : ⊥ = omega arith in bad)) (λ l.
      ⊎_elim (decoded_two l) (λ m.
      ⊎_elim (decoded_three m) (λ n.
      ⊎_elim (decoded_four n) (λ o. absurd (let e = follow_large a o in let bad : ⊥ = omega arith in bad)) (split a 244)) (split a 239)) (split a 223)) (split a 193)) (split a 127)

-- no characters
decoded_none : Decoded []
decoded_none = record { characters = []; good = refl; same = refl }

decoded_step : (n : ℕ) (s : List ℕ) → length s ≤ suc n → utf8 s ≡ true → ((t : List ℕ) → length t ≤ n → utf8 t ≡ true → Decoded t) → Decoded s
decoded_step n [] l h more = decoded_none
decoded_step n (a ∷ s) l h more =
    let p = passed (leb (follow a) 3) h in
    decoded_first a s p.0 p.1 (λ t k. more t (omega arith))

decoded_in : (n : ℕ) (s : List ℕ) → length s ≤ n → utf8 s ≡ true → Decoded s
decoded_in zero s l h = go s l
  where
    go : (s : List ℕ) → length s ≤ 0 → Decoded s
    go [] l = decoded_none
    go (a ∷ s) l = absurd (let bad : ⊥ = omega arith in bad)
decoded_in (suc n) s l h = decoded_step n s l h (decoded_in n)

-- a UTF-8 text is the writing of some characters
pub utf8_encoded : (s : List ℕ) → utf8 s ≡ true → Decoded s
utf8_encoded s h = decoded_in (length s) s (omega arith) h
