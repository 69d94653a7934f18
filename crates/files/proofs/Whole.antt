-- What was read of a text lies in the lent list, and is that of some text. Assumes nothing.
use Rattle.std.specs.Prelude.{Err, Ok, Option, Result, Some}
use Rattle.std.proofs.Common.{◌≡◌, ℕ, ◌*◌, ◌/◌, ◌≤◌, List, ◌++◌, length, take, drop, sym, ap, ◌∙◌, arith, length-append, length-take-le}
use Rattle.paper.specs.declared.Refusal.{Refusal}
use Rattle.paper.specs.Answers.{Answer}
use Rattle.rulefile.specs.Files.{into, rules_read, read_into}
use Rattle.naming.specs.declared.lines.Fault.{Fault}
use Rattle.naming.specs.Names as Names
use Rattle.files.specs.declared.listing.RulesFault.{RulesFault}
use Rattle.files.specs.Texts.{Gives, Text, unasked, unread, holds, refused_as, rules_as, rules_of, ReadsRules, names_of, ReadsNames, no_names, none, some}

-- ---- a text

-- ---- rules

abbrev eighth : List ℕ → ℕ
eighth ns = length ns / 8

-- the numbers of so many rules lie in the list
eights_fit : (vs out : List ℕ) {n : ℕ} {left : List ℕ} → n ≡ length vs / 8 * 8 → left ≡ vs ++ drop (length vs) out → n ≤ length left
eights_fit vs out e f = rw f (omega (arith, length-append vs (drop (length vs) out)))

into_fits : (a : Answer (List ℕ)) (out : List ℕ) {k : ℕ} {left : List ℕ} → Ok k ≡ (into eighth a out).0 → left ≡ (into eighth a out).1 → k * 8 ≤ length left
into_fits (Ok vs) out {k} e f = let n : k ≡ length vs / 8 = cc in eights_fit vs out (ap (λ (i : ℕ). i * 8) n) f
into_fits (Err why) out e f = absurd (let z : ◌≡◌ {A = ℕ} 0 1 = cc in let bad : ⊥ = omega arith in bad)

-- so many rules were read into a list that has room for their numbers
pub read_fits : (s out : List ℕ) {r : Answer ℕ} {k : ℕ} {left : List ℕ} → (r, left) ≡ read_into s out → r ≡ Ok k → k * 8 ≤ length left
read_fits s out e f = into_fits (rules_read s (length out)) out (sym f ∙ ap (λ (x : Answer ℕ × List ℕ). x.0) e) (ap (λ (x : Answer ℕ × List ℕ). x.1) e)

as_fits : (a : Answer (List ℕ)) (out : List ℕ) {n : ℕ} {left : List ℕ} → Ok n ≡ (rules_as (into eighth a out)).0
    → left ≡ (rules_as (into eighth a out)).1 → n ≤ length left
as_fits (Ok vs) out {n} e f = let m : n ≡ length vs / 8 * 8 = cc in eights_fit vs out m f
as_fits (Err why) out e f = cc

text_fits : (x : Text) (rules : List ℕ) {n : ℕ} {left : List ℕ} → Ok n ≡ (rules_of x rules).0 → left ≡ (rules_of x rules).1 → n ≤ length left
text_fits unasked rules {n} e f = let m : n ≡ 0 = cc in omega arith
text_fits unread rules e f = cc
text_fits (holds s) rules e f = as_fits (rules_read s (length rules)) rules e f

-- the numbers of rules that were read lie in the lent list
pub rules_fits : {rules left : List ℕ} {t : Result ℕ RulesFault} → ReadsRules rules t left → {n : ℕ} → t ≡ Ok n → n ≤ length left
rules_fits {rules} r e =
    text_fits r.text rules (sym e ∙ ap (λ (x : Result ℕ RulesFault × List ℕ). x.0) r.same) (ap (λ (x : Result ℕ RulesFault × List ℕ). x.1) r.same)

-- so many are taken from it
pub rules_taken : {rules left : List ℕ} {t : Result ℕ RulesFault} → ReadsRules rules t left → {n : ℕ} → t ≡ Ok n → n ≡ length (take n left)
rules_taken r e = sym (length-take-le _ _ (rules_fits r e))

-- ---- what comes of a reading

-- some text was read
pub reads_text : {s rules left : List ℕ} {r : Result ℕ RulesFault} → Gives s rules r left → ReadsRules rules r left
reads_text {s} g = record { text = holds s; same = g.same }

module _ (s rules : List ℕ) {left : List ℕ} {r : Answer ℕ} (e : (r, left) ≡ read_into s rules) where
  pub rules_are : {k : ℕ} → r ≡ Ok k → Gives s rules (Ok (k * 8)) left
  rules_are f = record { same = ap (λ (x : Answer ℕ). rules_as (x, left)) (sym f) ∙ ap rules_as e }

  pub rules_refused : {why : Refusal} {a : RulesFault} → r ≡ Err why → a ≡ refused_as why → Gives s rules (Err a) left
  rules_refused f g = record {
    same = ap (λ (x : RulesFault). (Err x, left)) g ∙ (ap (λ (x : Answer ℕ). rules_as (x, left)) (sym f) ∙ ap rules_as e);
  }

-- ---- names

names_count : (m : ℕ) (x : Result (Unit {0}) (ℕ × Fault)) {n : ℕ} → Some n ≡ names_of m x → n ≡ m
names_count m (Ok u) e = cc
names_count m (Err at) e = cc

-- the bytes of names that were read lie in the lent list
pub names_fits : {left : List ℕ} {t : Option ℕ} → ReadsNames t left → {n : ℕ} → t ≡ Some n → n ≤ length left
names_fits (no_names q) {n} e = let f = sym e ∙ q in let m : n ≡ 0 = cc in omega arith
names_fits (none q) e = absurd (let f = sym e ∙ q in let z : ◌≡◌ {A = ℕ} 0 1 = cc in let bad : ⊥ = omega arith in bad)
names_fits {left} (some m h q) {n} e = let f : n ≡ m = names_count m (Names.checked (take m left)) (sym e ∙ q) in omega arith
