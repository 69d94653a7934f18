-- The turns of the loop that checks a file. Assumes nothing.
use Rattle.std.specs.Prelude.{Result, Ok, Err}
use Prim.Native.Nat.{ℕ, suc, ◌+◌, ◌≤◌, ◌<◌}
use mathlib.Core.Path.{◌≡◌, refl, sym, ap, ◌∙◌}
use mathlib.Core.Bool.{true, false}
use mathlib.Core.List.{List}
use mathlib.Core.Logic.{⊎_elim}
use native.Mathlib.Numerals.{add-one}
use native.Mathlib.Omega.{arith}
use lib.ListN.{length, drop}
use Rattle.paper.proofs.Tests.{split}
use Rattle.text.specs.Digits.{is_end}
use Rattle.text.proofs.Texts.{over}
use Rattle.naming.specs.declared.lines.Fault.{Fault}
use Rattle.naming.specs.declared.lines.Fault.TheVariants.{NoFeed, Mark}
use Rattle.naming.specs.Names.{Name, Names, are, fails, ahead, Lines, ended, lines_of, is, judged, line_of, names_from, marked, names_of, told, checked}
use Rattle.naming.proofs.Splits.{line_length, line_at, line_at_law}
use Rattle.naming.proofs.Judges.{ends_filled, wrong_line, name_line}

-- what is told of the lines from a place on
abbrev pub told_from : List ℕ → ℕ → ℕ → ℕ → Result (Unit {0}) (ℕ × Fault)
told_from file at n least = told (names_from n least (lines_of (drop at file)))

told_ahead : (x : Name) (names : Names) → told (ahead x names) ≡ told names
told_ahead x (are xs) = refl
told_ahead x (fails n fault) = refl

named_turn : (n least number : ℕ) (s : List ℕ) (more : Lines) (x : Name) → judged least s ≡ is x → number ≡ x.number
    → told (names_from (n + 1) (number + 1) more) ≡ told (names_from n least (ended s more))
named_turn n least number s more x k m = rw (k, m, add-one n, add-one x.number) (sym (told_ahead x (names_from (suc n) (suc x.number) more)))

pub check_marked : (s : List ℕ) → marked s ≡ true → Err (1, Mark) ≡ checked s
unfolding names_of
check_marked s e = rw e

pub check_first : (s : List ℕ) → marked s ≡ false → told_from s 0 1 0 ≡ checked s
unfolding names_of
check_first s e = rw e

pub check_over : (file : List ℕ) (at n least : ℕ) → length file ≤ at → Ok tt ≡ told_from file at n least
check_over file at n least h = rw (over file at h)

module _ (file : List ℕ) (at end n least : ℕ) (a : at < length file) (e : end ≡ at + line_length file at) where
  abbrev pub text : List ℕ
  text = line_at file at end

  -- the last line has a byte
  last_filled : length file ≤ end → is_end text ≡ false
  last_filled h =
      let r = line_at_law file at end (omega arith) e in
      let l = ap length r.long in
      ends_filled text (λ z. omega arith)

  pub check_wrong : (fault : Fault) → Err fault ≡ line_of (judged least text) → Err (n, fault) ≡ told_from file at n least
  check_wrong fault w =
      let r = line_at_law file at end (omega arith) e in
      let j = wrong_line (judged least text) fault w in
      ⊎_elim (λ h. rw (r.over h, last_filled h, j)) (λ h. rw (r.feed h, j)) (split (length file) end)

  module _ (number : ℕ) (w : Ok number ≡ line_of (judged least text)) where
    pub check-unfed : length file ≤ end → Err (n, NoFeed) ≡ told_from file at n least
    check-unfed h =
        let r = line_at_law file at end (omega arith) e in
        let j = name_line (judged least text) number w in
        let k = j.same in
        rw (r.over h, last_filled h, k)

    pub check-turn : end < length file → told_from file (end + 1) (n + 1) (number + 1) ≡ told_from file at n least
    check-turn h =
        let r = line_at_law file at end (omega arith) e in
        let j = name_line (judged least text) number w in
        named_turn n least number text (lines_of (drop (end + 1) file)) j.name j.same j.number_same ∙ ap (λ (l : Lines). told (names_from n least l)) (sym (r.feed h))
