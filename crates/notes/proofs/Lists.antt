-- The rules of a lunar month, put one at a time. Assumes nothing.
use Prim.Native.Nat.{ℕ, suc, ◌+◌, ◌-◌, ◌≤◌, ◌<◌}
use mathlib.Core.Bool.{Bool, true, false, not, ◌&&◌, ◌||◌}
use mathlib.Core.Path.{◌≡◌, refl, sym, ap, ◌∙◌}
use mathlib.Core.List.{List, [], ◌∷◌, ◌++◌}
use native.Mathlib.Omega.{arith}
use lib.Dec.{eqb}
use Rattle.wall.specs.Names.{name_text}
use Rattle.rules.specs.declared.Rule.{Rule}
use Rattle.rules.specs.Rules.{rule_at, rules_from}
use Rattle.output.specs.Gathered.{Gathered, gathered}
use Rattle.output.specs.declared.Out.{Out}
use Rattle.output.specs.Pieces.{put_pieces, Puts}
use Rattle.notes.specs.Lines.{is_of, end_of, rule_pieces, item_pieces, list_pieces}
use Rattle.notes.specs.declared.lines.Listed.{Listed}
use Rattle.output.proofs.Pieces.{pieces_append, puts_none}

-- ---- a rule

-- what the code tests: it is no rule of the month
abbrev no_rule : ℕ → Rule → Bool
no_rule month r = not (eqb r.kind 3) || not (eqb r.month month)

of_no : (month : ℕ) (r : Rule) → is_of month r ≡ not (no_rule month r)
unfolding is_of
of_no month r = go (eqb r.kind 3) (eqb r.month month)
  where
    go : (a b : Bool) → (a && b) ≡ not (not a || not b)
    go true true = refl
    go true false = refl
    go false b = refl

or_false : (b : Bool) → b ≡ (b || false)
or_false true = refl
or_false false = refl

or_true : (b : Bool) → true ≡ (b || true)
or_true true = refl
or_true false = refl

module _ (month : ℕ) {q r : Rule} (e : q ≡ r) where
  module _ (t : no_rule month q ≡ true) where
    pub next_none : (names : List ℕ) (l : List ℕ) (o : Out) → Puts l o (item_pieces names month r) l o
    unfolding item_pieces
    next_none names l o = rw (← e, of_no month q, t) (puts_none l o)

    pub begun-none : (begun : Bool) → begun ≡ (begun || is_of month r)
    begun-none begun = rw (← e, of_no month q, t) (or_false begun)

  module _ (t : no_rule month q ≡ false) where
    pub next-rule : (names : List ℕ) {l : List ℕ} {o : Out} {m : List ℕ} {p : Out}
        → Puts l o (rule_pieces q.name (name_text q.name names)) m p → Puts l o (item_pieces names month r) m p
    unfolding item_pieces
    next-rule names w = rw (← e, of_no month q, t) w

    pub begun-rule : (begun : Bool) → true ≡ (begun || is_of month r)
    begun-rule begun = rw (← e, of_no month q, t) (or_true begun)

-- ---- a list of rules

module _ (names : List ℕ) (month : ℕ) (rules : List ℕ) where
  list_over : (i n : ℕ) (begun : Bool) → n ≤ i → list_pieces names month begun (rules_from rules i (n - i)) ≡ end_of begun ∷ []
  unfolding list_pieces
  list_over i n begun h = let e : n - i ≡ 0 = omega arith in rw e

  list_turn : (i n : ℕ) (begun : Bool) → i < n
      → item_pieces names month (rule_at rules i) ++ list_pieces names month (begun || is_of month (rule_at rules i)) (rules_from rules (i + 1) (n - (i + 1)))
      ≡ list_pieces names month begun (rules_from rules i (n - i))
  unfolding list_pieces
  list_turn i n begun h = let e : n - i ≡ suc (n - (i + 1)) = omega arith in rw e

  -- the rules from number i on, behind what is gathered now, make the whole line
  pub record Rest (n : ℕ) (whole : Gathered) (i : ℕ) (l : List ℕ) (d : Listed) : Type 0 where
    pub same : put_pieces (gathered l d.out) (list_pieces names month d.some (rules_from rules i (n - i))) ≡ whole

module _ {names : List ℕ} {month : ℕ} {rules : List ℕ} {n : ℕ} where
  pub rest_all : (l : List ℕ) (d : Listed) → Rest names month rules n (put_pieces (gathered l d.out) (list_pieces names month d.some (rules_from rules 0 n))) 0 l d
  rest_all l d = record { same = let e : n - 0 ≡ n = omega arith in rw e }

  module _ {whole : Gathered} {i : ℕ} {l : List ℕ} {d : Listed} (a : Rest names month rules n whole i l d) where
    pub rest_turn : {m : List ℕ} {e : Listed} → i < n → Puts l d.out (item_pieces names month (rule_at rules i)) m e.out
        → e.some ≡ (d.some || is_of month (rule_at rules i)) → Rest names month rules n whole (i + 1) m e
    rest_turn {m} {e} h w s =
        let item = item_pieces names month (rule_at rules i) in
        let rest = rules_from rules (i + 1) (n - (i + 1)) in
        record {
          same = ap (λ (g : Gathered). put_pieces g (list_pieces names month e.some rest)) w.same
              ∙ ap (λ (b : Bool). put_pieces (put_pieces (gathered l d.out) item) (list_pieces names month b rest)) s
              ∙ sym (pieces_append (gathered l d.out) item (list_pieces names month (d.some || is_of month (rule_at rules i)) rest))
              ∙ ap (put_pieces (gathered l d.out)) (list_turn names month rules i n d.some h)
              ∙ a.same;
        }

    pub rest_none : {m : List ℕ} {r : Out} → n ≤ i → Puts l d.out (end_of d.some ∷ []) m r → gathered m r ≡ whole
    rest_none h w = w.same ∙ ap (put_pieces (gathered l d.out)) (sym (list_over names month rules i n d.some h)) ∙ a.same
