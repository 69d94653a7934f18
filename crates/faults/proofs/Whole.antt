-- Nothing is broken exactly where the list of rules is accepted. Assumes nothing.
use Rattle.std.proofs.Common.{Option, Some, None, ◌≡◌, ℕ, zero, suc, ◌+◌, ◌-◌, ◌%◌, ◌<◌, ◌≤◌, Bool, true, false, cond, not, ◌&&◌, ◌||◌, eqb, ltb, leb, List, [], ◌∷◌, length, sym, refl, ap, ◌∙◌, ⊎_elim, add-one, arith, le-ltb, lt-ltb, eq-eqb, ne_eqb, le-leb}
use mathlib.Core.Bool.{and_assoc, and_comm, and-true, and-false, or-false}
use borrow.Author.Tests.{lt-leb}
use lib.Dec.{leb-zero, leb-suc-suc}
use Rattle.paper.proofs.Tests.{split}
use Rattle.rules.specs.declared.Rule.{Rule}
use Rattle.rules.specs.Rules.{rules_of, rule_good, all_good, count_kind, accepted_rules}
use Rattle.rules.proofs.Walk.{good_none, good_cons}
use Rattle.faults.specs.declared.first.Field.{Field}
use Rattle.faults.specs.declared.first.Field.TheVariants as field
use Rattle.faults.specs.declared.first.Fault.{Fault}
use Rattle.faults.specs.declared.first.Fault.TheVariants as fault
use Rattle.faults.specs.Faults.{number_in, least, most_day, only_in, most, breaks, fields, first_field, first_from, over_from, many_of, first_fault}
use Rattle.std.specs.List.{find, list_all}
use Rattle.std.specs.Option.{is_none, option_or, option_map}

-- ---- a field

not_less : (a b : ℕ) → not (ltb a b) ≡ leb b a
not_less a b =
    ⊎_elim (λ (h : b ≤ a). rw (le-ltb a b h, le-leb b a h)) (λ (h : a < b). rw (lt-ltb a b h, lt-leb b a h)) (split b a)

neither : (a b : Bool) → not (a || b) ≡ (not a && not b)
neither true b = refl
neither false b = refl

-- from the smallest to the largest
abbrev fits : Rule → Field → Bool
fits r f = leb (least f) (number_in r f) && leb (number_in r f) (most r f)

fits_not : (r : Rule) (f : Field) → not (breaks r f) ≡ fits r f
fits_not r f = neither (ltb (number_in r f) (least f)) (ltb (most r f) (number_in r f)) ∙ rw (not_less (number_in r f) (least f), not_less (most r f) (number_in r f))

-- at most 0 is 0
only_zero : (n : ℕ) → leb n 0 ≡ eqb n 0
only_zero n =
    ⊎_elim (λ (h : n ≤ 0). let e : n ≡ 0 = omega arith in rw (le-leb n 0 h, eq-eqb n 0 e))
    (λ (h : 0 < n). let e : n ≡ 0 → ⊥ = λ q. omega arith in rw (lt-leb n 0 h, ne_eqb n 0 e)) (split n 0)

-- ---- a rule

-- no field of a list breaks a rule exactly where each fits
none_fits : (r : Rule) (fs : List Field) → is_none (find (breaks r) fs) ≡ list_all (fits r) fs
none_fits r [] = refl
none_fits r (f ∷ fs) = go (breaks r f) (none_fits r fs) ∙ ap (λ (b : Bool). b && list_all (fits r) fs) (fits_not r f)
  where
    go : (b : Bool) → is_none (find (breaks r) fs) ≡ list_all (fits r) fs
        → is_none (cond b (Some f) (find (breaks r) fs)) ≡ (not b && list_all (fits r) fs)
    go true e = refl
    go false e = e

chain : (r : Rule) → is_none (first_field r) ≡ (fits r field.Kind && (fits r field.Year && (fits r field.Month && (fits r field.Day
    && (fits r field.Half && (fits r field.Kala && fits r field.Holiday))))))
unfolding first_field
chain r = rw (none_fits r fields) (simp and-true)

-- the last of some tests may be asked first
last_first : (y a b c d h k l : Bool) → (y && (a && (b && (c && (d && (h && (k && l))))))) ≡ (l && (y && (a && (b && (c && (d && (h && k)))))))
last_first y a b c d h k l = simp and_assoc at (and_comm (y && (a && (b && (c && (d && (h && k)))))) l)

module _ (r : Rule) where
  -- the tests of a date, with others before and behind them, and the holiday's last or first
  dated : (y h k : Bool) (last : ℕ) → (y && (leb 1 r.month && (leb r.month 12 && (leb 1 r.day && (leb r.day last && (h && (k && leb r.holiday 1)))))))
      ≡ (leb r.holiday 1 && (y && (leb 1 r.month && (leb r.month 12 && (leb 1 r.day && (leb r.day last && (h && k)))))))
  dated y h k last = last_first y (leb 1 r.month) (leb r.month 12) (leb 1 r.day) (leb r.day last) h k (leb r.holiday 1)

  fixed_rule : r.kind ≡ 1 → is_none (first_field r) ≡ rule_good r
  unfolding rule_good most_day only_in
  fixed_rule e = chain r ∙ rw e (simp (leb-zero, only_zero, or-false, and_assoc) (dated (eqb r.year 0) (eqb r.half 0) (eqb r.kala 0) 32))

  gregorian_rule : r.kind ≡ 2 → is_none (first_field r) ≡ rule_good r
  unfolding rule_good most_day only_in
  gregorian_rule e = chain r ∙ rw e (simp (leb-zero, only_zero, or-false, and_assoc) (dated (eqb r.year 0) (eqb r.half 0) (eqb r.kala 0) 31))

  computed_rule : r.kind ≡ 3 → is_none (first_field r) ≡ rule_good r
  unfolding rule_good most_day only_in
  computed_rule e = chain r ∙ rw e (simp (leb-zero, only_zero, or-false, and_assoc) (dated (eqb r.year 0) (leb r.half 1) (leb r.kala 5) 15))

  override_rule : r.kind ≡ 4 → is_none (first_field r) ≡ rule_good r
  unfolding rule_good most_day only_in
  override_rule e =
      let y : leb r.year r.year ≡ true = le-leb r.year r.year (omega arith) in
      chain r ∙ rw (e, y) (simp (leb-zero, only_zero, and_assoc) (dated true (eqb r.half 0) (eqb r.kala 0) 32))

  no_rule : r.kind ≡ 0 → is_none (first_field r) ≡ rule_good r
  unfolding rule_good
  no_rule e = chain r ∙ rw e (sym (and-false (leb r.holiday 1)))

  other_rule : 4 < r.kind → is_none (first_field r) ≡ rule_good r
  unfolding rule_good
  other_rule h =
      let low = le-leb 1 r.kind (omega arith) in
      let one = ne_eqb r.kind 1 (λ q. omega arith) in
      let two = ne_eqb r.kind 2 (λ q. omega arith) in
      let three = ne_eqb r.kind 3 (λ q. omega arith) in
      let four = ne_eqb r.kind 4 (λ q. omega arith) in
      chain r ∙ rw (low, lt-leb r.kind 4 h, one, two, three, four) (sym (and-false (leb r.holiday 1)))

-- no field of a rule breaks a rule exactly where it is good
pub rule_whole : (r : Rule) → is_none (first_field r) ≡ rule_good r
rule_whole r = go r.kind refl
  where
    go : (k : ℕ) → r.kind ≡ k → is_none (first_field r) ≡ rule_good r
    go zero e = no_rule r e
    go (suc zero) e = fixed_rule r e
    go (suc (suc zero)) e = gregorian_rule r e
    go (suc (suc (suc zero))) e = computed_rule r e
    go (suc (suc (suc (suc zero)))) e = override_rule r e
    go (suc (suc (suc (suc (suc k))))) e = other_rule r (omega arith)

-- ---- a list

rules_whole : (rs : List Rule) (i : ℕ) → is_none (first_from rs i) ≡ all_good rs
unfolding first_from
rules_whole [] i = sym good_none
rules_whole (r ∷ rs) i = go (first_field r) ∙ rw (rules_whole rs (i + 1), rule_whole r) (sym (good_cons r rs))
  where
    go : (o : Option Field) → is_none (option_or (option_map (λ f. fault.At i f r) o) (first_from rs (i + 1))) ≡ (is_none o && is_none (first_from rs (i + 1)))
    go None = refl
    go (Some f) = refl

-- one more on both sides
more_leb : (a b : ℕ) → leb a b ≡ leb (a + 1) (suc b)
more_leb a b = rw (add-one, leb-suc-suc a b)

over_whole : (kind k : ℕ) (rs : List Rule) (i : ℕ) → is_none (over_from kind k rs i) ≡ leb (count_kind kind rs) k
unfolding over_from count_kind
over_whole kind k [] i = sym (leb-zero k)
over_whole kind k (r ∷ rs) i = go (eqb r.kind kind) k (λ j. over_whole kind j rs (i + 1))
  where
    more : (k : ℕ) → ((j : ℕ) → is_none (over_from kind j rs (i + 1)) ≡ leb (count_kind kind rs) j)
        → is_none (cond (eqb k 0) (Some (fault.Many i kind)) (over_from kind (k - 1) rs (i + 1))) ≡ leb (count_kind kind rs + 1) k
    more zero ih = sym (lt-leb (count_kind kind rs + 1) 0 (omega arith))
    more (suc k) ih =
        let e : suc k - 1 ≡ k = omega arith in
        let z : eqb (suc k) 0 ≡ false = ne_eqb (suc k) 0 (λ q. omega arith) in
        rw (z, e) (ih k ∙ more_leb (count_kind kind rs) k)

    go : (b : Bool) (k : ℕ) → ((j : ℕ) → is_none (over_from kind j rs (i + 1)) ≡ leb (count_kind kind rs) j)
        → is_none (cond b (cond (eqb k 0) (Some (fault.Many i kind)) (over_from kind (k - 1) rs (i + 1))) (over_from kind k rs (i + 1)))
        ≡ leb (cond b (count_kind kind rs + 1) (count_kind kind rs)) k
    go true k ih = more k ih
    go false k ih = ih k

either_none : (a b : Option Fault) → is_none (option_or a b) ≡ (is_none a && is_none b)
either_none None b = refl
either_none (Some f) b = refl

many_whole : (rs : List Rule) → is_none (many_of rs) ≡ (leb (count_kind 1 rs) 64 && (leb (count_kind 2 rs) 64 && (leb (count_kind 3 rs) 64 && leb (count_kind 4 rs) 128)))
unfolding many_of
many_whole rs = simp (either_none, over_whole)

-- nothing is broken exactly where the list is accepted
pub whole_accepted : (xs : List ℕ) → is_none (first_fault xs) ≡ accepted_rules xs
unfolding first_fault accepted_rules
whole_accepted xs = go (eqb (length xs % 8) 0) ∙ rw (either_none, rules_whole, many_whole) (simp and_assoc)
  where
    go : (b : Bool) → is_none (cond b (option_or (first_from (rules_of xs) 0) (many_of (rules_of xs))) (Some fault.Uneven))
        ≡ (b && is_none (option_or (first_from (rules_of xs) 0) (many_of (rules_of xs))))
    go true = refl
    go false = refl
