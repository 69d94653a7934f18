-- What reading and writing a file come to, case by case. Assumes nothing.
use Rattle.std.specs.Prelude.{Err, Ok}
use Prim.Native.Nat.{ℕ, ◌+◌, ◌/◌, ◌≤◌, ◌<◌}
use mathlib.Core.Path.{◌≡◌, sym, ap, ◌∙◌}
use mathlib.Core.Bool.{Bool, true, false}
use mathlib.Core.List.{List, ◌++◌}
use native.Mathlib.Omega.{arith}
use borrow.Author.Tests.{le-leb, lt-leb, leb-true}
use lib.Dec.{leb}
use lib.ListN.{length, take, drop}
use Rattle.paper.specs.declared.Refusal.{Refusal}
use Rattle.paper.specs.declared.Refusal.TheVariants.{BadRules, NoRoom, OutOfForm}
use Rattle.paper.specs.Answers.{Answer, given}
use Rattle.paper.proofs.Answers.{answered_same, given_answered}
use Rattle.paper.proofs.Stores.{front_of, sets_front}
use Rattle.text.specs.Written.{Wrote}
use Rattle.keyed.specs.Forms.{told_line}
use Rattle.rules.specs.Rules.{accepted_rules}
use Rattle.rulefile.specs.Files.{file_lines, file_text, rules_read, file_written, read_into, write_into}
use Rattle.rulefile.specs.Inner.{Sees}
use Rattle.rules.proofs.Few.{too_many}

-- ---- reading

-- what is read where a text is in form
rest_read : List ℕ → ℕ → Answer (List ℕ)
rest_read s room =
    given (accepted_rules (file_lines s).numbers) BadRules
    (given (leb (length (file_lines s).numbers) room) NoRoom
    (Ok (file_lines s).numbers))

-- where a test before a value refuses, it refuses before any answer
refused : {A B : Type 0} (b : Bool) (k : Refusal) (x : A) (a : Answer B) {j : Refusal} → given b k (Ok x) ≡ Err j → given b k a ≡ Err j
refused true k x a e = cc
refused false k x a e = cc

module _ {s kept after : List ℕ} {r : Answer ℕ} (out : List ℕ) (w : Sees s kept after r) where
  pub out_of_form : {k : Refusal} → r ≡ Err k → (Err k, out) ≡ read_into s out
  unfolding rules_read rest_read
  out_of_form e =
      let f = sym w.count ∙ e in
      rw (refused (file_lines s).whole (OutOfForm (told_line (file_lines s))) (length (file_lines s).numbers) (rest_read s (length out)) f)

  module _ {n : ℕ} (e : r ≡ Ok n) where
    in_form : ((file_lines s).whole ≡ true) × (length (file_lines s).numbers ≡ n)
    in_form =
        let q = given_answered (file_lines s).whole (OutOfForm (told_line (file_lines s))) (Ok (length (file_lines s).numbers)) (sym w.count ∙ e) in
        (q.0, answered_same q.1)

    bad : accepted_rules (file_lines s).numbers ≡ false → (Err BadRules, out) ≡ read_into s out
    unfolding rules_read
    bad f = let q = in_form.0 in rw (q, f)

    pub many : 2560 < n → (Err BadRules, out) ≡ read_into s out
    many h = bad (too_many (file_lines s).numbers (omega (arith, in_form.1)))

    module _ (long : length kept ≡ 2560) (h : n ≤ 2560) where
      part : take n after ≡ (file_lines s).numbers
      part = front_of (file_lines s).numbers kept after n w.stored in_form.1 (omega arith)

      module _ {b : Bool} (f : b ≡ accepted_rules (take n after)) where
        pub not_good : b ≡ false → (Err BadRules, out) ≡ read_into s out
        not_good g = bad (sym (f ∙ ap accepted_rules part) ∙ g)

        module _ (g : b ≡ true) where
          good : accepted_rules (file_lines s).numbers ≡ true
          good = sym (f ∙ ap accepted_rules part) ∙ g

          pub no_room : length out < n → (Err NoRoom, out) ≡ read_into s out
          unfolding rules_read
          no_room l =
              let q = in_form.0 in
              let a = good in
              let k = lt-leb (length (file_lines s).numbers) (length out) (omega (arith, in_form.1)) in
              rw (q, a, k)

          pub all_read : n ≤ length out → (Ok (n / 8), take n after ++ drop n out) ≡ read_into s out
          unfolding rules_read
          all_read l =
              let q = in_form.0 in
              let m : n ≡ length (file_lines s).numbers = sym in_form.1 in
              let a = good in
              let k = le-leb (length (file_lines s).numbers) (length out) (omega arith) in
              let p = part in
              rw (q, a, k, p, m)

-- ---- writing

module _ (rules out : List ℕ) where
  pub bad_rules : accepted_rules rules ≡ false → (Err BadRules, out) ≡ write_into rules out
  unfolding file_written
  bad_rules e = rw e

  module _ (e : accepted_rules rules ≡ true) where
    pub too_long : leb (length (file_text rules)) (length out) ≡ false → (Err NoRoom, out) ≡ write_into rules out
    unfolding file_written
    too_long f = rw (e, f)

    pub all-written : {new : List ℕ} {n : ℕ} → leb (length (file_text rules)) (length out) ≡ true → Wrote out 0 (file_text rules) new n
        → (Ok n, new) ≡ write_into rules out
    unfolding file_written
    all-written {new} {n} f w =
        let l = leb-true (length (file_text rules)) (length out) f in
        let t = w.stored ∙ sets_front (file_text rules) out l in
        let m : n ≡ length (file_text rules) = omega (arith, w.end) in
        rw (e, f, t, m)
