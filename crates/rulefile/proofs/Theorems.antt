-- What is claimed of rule files holds. Assumes nothing.
use Rattle.std.specs.Prelude.{Err, Ok}
use Prim.Native.Nat.{ℕ, ◌*◌, ◌/◌, ◌%◌, ◌≤◌}
use mathlib.Core.Path.{◌≡◌, refl, sym, ap, ◌∙◌}
use mathlib.Core.Bool.{Bool, true, false}
use mathlib.Core.List.{List, [], ◌∷◌}
use native.Mathlib.Omega.{arith}
use borrow.Author.Tests.{eq-eqb, eqb-true, le-leb}
use lib.Dec.{leb}
use lib.ListN.{length}
use Rattle.paper.specs.declared.Refusal.{Refusal}
use Rattle.paper.specs.declared.Refusal.TheVariants.{BadRules, NoRoom, OutOfForm}
use Rattle.paper.specs.Answers.{Answer, given}
use Rattle.paper.proofs.Answers.{answered_same, refused_answered, given_answered}
use Rattle.keyed.specs.Forms.{after, told_line, Writing, OutAt}
use Rattle.keyed.proofs.Forms as forms
use Rattle.rules.specs.declared.Rule.{Rule}
use Rattle.rules.specs.Rules.{rules_of, accepted_rules}
use Rattle.rules.proofs.Accepted.{good_rules}
use Rattle.rulefile.specs.Rules.{rules_text, flat, Small}
use Rattle.rulefile.specs.Files.{rule_form, file_lines, file_text, rules_read, file_written, into, read_into, write_into}
use Rattle.rulefile.specs.Claims.{FileOf, InForm, rules_in, RuleFiles}
use Rattle.rulefile.proofs.Grouped.{file_rules, flat_rules, small_keeps, keeps_small, after_all}

-- ---- in form exactly if it is the file of some rules

-- the file of whole rules is in form, and reads to their numbers
numbers_read : (ns : List ℕ) → Small ns → length ns % 8 ≡ 0 → file_lines (file_text ns) ≡ record { numbers = ns; whole = true }
numbers_read ns s h =
    let e : after rule_form 0 ns % 8 ≡ 0 = omega (arith, after_all 0 ns) in
    forms.written rule_form 0 (file_text ns) ns (record { keeps = small_keeps 0 ns s; ends = eq-eqb (after rule_form 0 ns % 8) 0 e; same = refl })

length_flat : (rs : List Rule) → length (flat rs) ≡ length rs * 8
length_flat [] = omega arith
length_flat (r ∷ rs) = omega (arith, length_flat rs)

file_form : (rs : List Rule) (s : List ℕ) → FileOf rs s → InForm s × ((file_lines s).numbers ≡ flat rs)
file_form rs s w =
    let e = ap file_lines (w.same ∙ sym (file_rules rs)) ∙ numbers_read (flat rs) w.small (omega (arith, length_flat rs)) in
    (ap (λ r. r.whole) e, ap (λ r. r.numbers) e)

module _ (s : List ℕ) (e : InForm s) where
  writing : Writing rule_form 0 s (file_lines s).numbers
  writing = forms.in_form_law rule_form 0 s e

  form_file : FileOf (rules_in s) s
  form_file =
      let ns = (file_lines s).numbers in
      let f = flat_rules ns (omega (arith, eqb-true (after rule_form 0 ns % 8) 0 writing.ends, after_all 0 ns)) in
      record {
        small = rw f (keeps_small 0 ns writing.keeps);
        same = writing.same ∙ ap file_text (sym f) ∙ file_rules (rules_of ns);
      }

same_bytes : (s t : List ℕ) → InForm s → InForm t → rules_in s ≡ rules_in t → s ≡ t
same_bytes s t e f q = (form_file s e).same ∙ ap rules_text q ∙ sym (form_file t f).same

-- ---- the line that is told

-- the refusals behind it are others
not_told : (a b : Bool) (ns : List ℕ) (k : ℕ) → given a BadRules (given b NoRoom (Ok ns)) ≡ Err (OutOfForm k) → ⊥
not_told true true ns k e = cc
not_told true false ns k e = cc
not_told false b ns k e = cc

told_out : (s : List ℕ) (room k : ℕ) → rules_read s room ≡ Err (OutOfForm k) → OutAt rule_form 0 s k
unfolding rules_read
told_out s room k h = go (file_lines s).whole refl h
  where
    good : Bool
    good = accepted_rules (file_lines s).numbers

    fits : Bool
    fits = leb (length (file_lines s).numbers) room

    go : (b : Bool) → (file_lines s).whole ≡ b
        → given b (OutOfForm (told_line (file_lines s))) (given good BadRules (given fits NoRoom (Ok (file_lines s).numbers))) ≡ Err (OutOfForm k)
        → OutAt rule_form 0 s k
    go true e q = absurd (not_told good fits (file_lines s).numbers k q)
    go false e q = let z : told_line (file_lines s) ≡ k = cc in rw (← z) (forms.told rule_form 0 s e)

out_told : (s : List ℕ) (room k : ℕ) → OutAt rule_form 0 s k → rules_read s room ≡ Err (OutOfForm k)
unfolding rules_read
out_told s room k w = let o = forms.told_only rule_form 0 s k w in rw (o.0, o.1)

-- ---- there and back

read_back_law : (rules s : List ℕ) (room wide : ℕ) → Small rules → file_written rules room ≡ Ok s → length rules ≤ wide → rules_read s wide ≡ Ok rules
unfolding rules_read file_written
read_back_law rules s room wide m h l =
    let p = given_answered (accepted_rules rules) BadRules _ h in
    let q = given_answered (leb (length (file_text rules)) room) NoRoom _ p.1 in
    let e = ap file_lines (sym (answered_same q.1)) ∙ numbers_read rules m (good_rules rules p.0).whole in
    let a = p.0 in
    let k = le-leb (length rules) wide l in
    rw (e, a, k)

write_back : (s rules : List ℕ) (room wide : ℕ) → rules_read s room ≡ Ok rules → length s ≤ wide → file_written rules wide ≡ Ok s
unfolding rules_read file_written
write_back s rules room wide h l =
    let p = given_answered (file_lines s).whole (OutOfForm (told_line (file_lines s))) _ h in
    let q = given_answered (accepted_rules (file_lines s).numbers) BadRules _ p.1 in
    let e = answered_same (given_answered (leb (length (file_lines s).numbers) room) NoRoom _ q.1).1 in
    let a : accepted_rules rules ≡ true = ap accepted_rules (sym e) ∙ q.0 in
    let t : file_text rules ≡ s = ap file_text (sym e) ∙ sym (writing s p.0).same in
    let k = le-leb (length s) wide l in
    rw (a, t, k)

-- ---- what a refusal leaves

left : (count : List ℕ → ℕ) (a : Answer (List ℕ)) (out : List ℕ) (k : Refusal) → (into count a out).0 ≡ Err k → (into count a out).1 ≡ out
left count (Ok vs) out k e = absurd (refused_answered e refl)
left count (Err j) out k e = refl

-- ---- one answer alone

one : (w : Answer ℕ × List ℕ) (r q : Answer ℕ) (a b : List ℕ) → (r, a) ≡ w → (q, b) ≡ w → (r ≡ q) × (a ≡ b)
one w r q a b e f =
    let g = e ∙ sym f in
    (ap (λ (x : Answer ℕ × List ℕ). x.0) g, ap (λ (x : Answer ℕ × List ℕ). x.1) g)

-- ---- all of it

pub rule_files : RuleFiles
rule_files =
    record {
      form_file = form_file;
      file_form = file_form;
      same_bytes = same_bytes;
      told_out = told_out;
      out_told = out_told;
      read_back_law = read_back_law;
      write_back = write_back;
      read_left = λ s out k e. left (λ ns. length ns / 8) (rules_read s (length out)) out k e;
      write_left = λ rules out k e. left length (file_written rules (length out)) out k e;
      one_read = λ s out. one (read_into s out);
      one_written = λ rules out. one (write_into rules out);
    }
