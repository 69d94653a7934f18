-- Laws of a rule's day and of the places of a resolved year. Assumes nothing.
use Rattle.std.specs.Prelude.{Err, None, Ok, Option, Some}
use Prim.Native.Nat.{ℕ, ◌+◌, ◌-◌, ◌≤◌, ◌<◌}
use mathlib.Core.Path.{◌≡◌, refl, sym, ap, ◌∙◌}
use mathlib.Core.Bool.{true}
use mathlib.Core.List.{List}
use native.Mathlib.Nat.{sub-zero, zero-add}
use native.Mathlib.Omega.{arith}
use borrow.Author.Tests.{eq-eqb, ne_eqb}
use lib.ListN.{set, replicate}
use lib.Ieee.{Float}
use Rattle.paper.specs.declared.Refusal.{Refusal}
use Rattle.conversion.specs.declared.BsDate.{BsDate}
use Rattle.conversion.specs.Calendar.{Calendar, from_day}
use Rattle.rules.specs.declared.Rule.{Rule}
use Rattle.rules.specs.Rules.{rule_at, rules_from, rule_good, count_kind}
use Rattle.rules.specs.Sky.{Sky}
use Rattle.rules.specs.Days.{next}
use Rattle.rules.specs.Festivals.{beginning, opening, rule_day, dated, in_table, entry}
use Rattle.rules.specs.Resolved.{put_entry, filled, resolved}
use Rattle.rules.proofs.Walk.{rest, left, left_none, count_turn, count-skip}
use Rattle.rules.proofs.Accepted.{computed_of}
use Rattle.rules.proofs.Used.{fill_none, fill_not, fill_is}
use Rattle.festivals.specs.declared.months.Months.{Months}
use Rattle.festivals.specs.Months.{months_by, month_at, day_by}
use Rattle.festivals.proofs.Moons.{month_at_law}

-- ---- where a tithi begins
module _ {I : Type 0} (s : Sky I) (t : ℕ) (x : I) where
  pub begins_at_moon : t ≡ 1 → Some x ≡ beginning s t x
  unfolding beginning
  begins_at_moon e = rw (eq-eqb t 1 e)

  pub begins_after : (o : Option I) → (t ≡ 1 → ⊥) → o ≡ s.start_of t x → o ≡ beginning s t x
  unfolding beginning
  begins_after o e q = rw (ne_eqb t 1 e) q

-- ---- the day of a rule, by the twelve places
rule_day_by : {I : Type 0} (s : Sky I) (c : Calendar) (y : ℕ) (r : Rule) (o : Option I) (d : Option ℕ) → o ≡ opening s c y r.month → d ≡ day_by s r o → rule_day s c y r ≡ d
unfolding rule_day day_by
rule_day_by s c y r o d e q = sym (q ∙ ap (day_by s r) e)

-- from the lunar months of the year
rule_day_at : (s : Sky Float) (c : Calendar) (y : ℕ) (r : Rule) (m : Months) (d : Option ℕ) → rule_good r ≡ true → r.kind ≡ 3 → m ≡ months_by (opening s c y) → d ≡ day_by s r (month_at m (r.month - 1)) → rule_day s c y r ≡ d
rule_day_at s c y r m d g k h q =
    let f = computed_of r g k in
    let e : r.month - 1 + 1 ≡ r.month = omega (arith, f.month_from) in
    rule_day_by s c y r _ d (ap (λ (x : Months). month_at x (r.month - 1)) h ∙ month_at_law (opening s c y) (r.month - 1) (omega (arith, f.month_to)) ∙ ap (opening s c y) e) q

-- its entry, by the lunar months of the year
pub entry_by : (s : Sky Float) (c : Calendar) (y : ℕ) (r : Rule) (m : Months) (o : Option ℕ) → rule_good r ≡ true → r.kind ≡ 3 → m ≡ months_by (opening s c y)
    → o ≡ next (day_by s r (month_at m (r.month - 1))) (in_table c) → o ≡ entry s c y r
unfolding entry
entry_by s c y r m o g k h q =
    let e = rule_day_at s c y r m (day_by s r (month_at m (r.month - 1))) g k h refl in
    q ∙ ap (λ (d : Option ℕ). next d (in_table c)) (sym e)

-- what a day gives: nothing where there is none or the table has not its date
module _ (c : Calendar) (o : Option ℕ) where
  pub entry_dayless : None ≡ o → None ≡ next o (in_table c)
  unfolding next
  entry_dayless e = rw (← e)

  module _ (n : ℕ) (e : Some n ≡ o) where
    pub entry_outside : {k : Refusal} → Err k ≡ from_day c n → None ≡ next o (in_table c)
    unfolding next in_table dated
    entry_outside f = rw (← e, ← f)

    pub entry_inside : {t : BsDate} → Ok t ≡ from_day c n → Some n ≡ next o (in_table c)
    unfolding next in_table dated
    entry_inside f = rw (← e, ← f)

pub put_none : (d : List ℕ) (j : ℕ) (o : Option ℕ) → None ≡ o → d ≡ put_entry d j o
unfolding put_entry
put_none d j o e = rw (← e)

pub put_some : (d : List ℕ) (j n : ℕ) (o : Option ℕ) → Some n ≡ o → set d j n ≡ put_entry d j o
unfolding put_entry
put_some d j n o e = rw (← e)

-- ---- a turn of the loop over the rules
module _ {I : Type 0} (s : Sky I) (c : Calendar) (y : ℕ) (xs : List ℕ) (n : ℕ) where
  -- after i of the n rules, and j of kind 3 among them, the days stand entered: the rest of the rules leads to the whole
  abbrev pub Entered : List ℕ → ℕ → ℕ → Type 0
  Entered d j i =
      (i ≤ n)
      × (j + count_kind 3 (rules_from xs i (n - i)) ≡ count_kind 3 (rules_from xs 0 n))
      × (filled s c y d j (rules_from xs i (n - i)) ≡ resolved s c y (rules_from xs 0 n))

  pub entered_first : Entered (replicate 64 0) 0 0
  unfolding resolved
  entered_first = (omega arith, rw (sub-zero, zero-add), rw sub-zero)

  module _ (i : ℕ) (h : i < n) (r : Rule) (er : r ≡ rule_at xs i) (d : List ℕ) (j : ℕ) (v : Entered d j i) where
    pub entered-skip : (r.kind ≡ 3 → ⊥) → Entered d j (i + 1)
    entered-skip e = (
      omega arith,
      count-skip xs i n h r er 3 j _ v.1 e,
      sym (ap (filled s c y d j) (left xs i n h r er) ∙ fill_not s c y d j r (rest xs i n h r er) e) ∙ v.2,
    )

    pub entered-next : r.kind ≡ 3 → (d' : List ℕ) → d' ≡ put_entry d j (entry s c y r) → Entered d' (j + 1) (i + 1)
    entered-next e d' p = (
      omega arith,
      count_turn xs i n h r er 3 j _ v.1 e,
      ap (λ z. filled s c y z (j + 1) (rest xs i n h r er)) p
          ∙ sym (ap (filled s c y d j) (left xs i n h r er) ∙ fill_is s c y d j r (rest xs i n h r er) e)
          ∙ v.2,
    )

    -- a place is left for a rule of kind 3
    pub place-left : r.kind ≡ 3 → count_kind 3 (rules_from xs 0 n) ≤ 64 → j < 64
    place-left e few = omega (arith, count_turn xs i n h r er 3 j _ v.1 e)

  pub entered_all : (i : ℕ) (d : List ℕ) (j : ℕ) → n ≤ i → Entered d j i → d ≡ resolved s c y (rules_from xs 0 n)
  entered_all i d j h v = sym (fill_none s c y d j) ∙ (rw (left_none xs i n h) at v.2)
