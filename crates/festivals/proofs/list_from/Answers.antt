-- `festivals::list_from` meets its contract. Assumes nothing.
use mathlib.Core.Path.{◌≡◌, ap, ◌∙◌}
use mathlib.Core.List.{List}
use Prim.Native.Nat.{ℕ}
use native.Mathlib.Nat.{zero-add}
use native.Mathlib.Omega.{arith}
use lib.ListN.{length}
use lib.Seq.{sets}
use Rattle.rules.specs.Rules.{rules_of}
use Rattle.rules.specs.Festivals.{Pair, numbers}
use Rattle.rules.specs.Resolved.{day_numbered, list_by}
use Rattle.rules.specs.declared.lists.Day.{Day}
use Rattle.rules.specs.declared.lists.Years.{Years}
use Rattle.rules.proofs.Listed.{says_short, says_list}
use Rattle.festivals.proofs.list_from.Goals as goal

-- the day's list
the-list : (rules : List ℕ) (years : Years) (d e : Day) → d ≡ e → list_by (rules_of rules) d years ≡ list_by (rules_of rules) e years
the-list rules years d e h = ap (λ (q : Day). list_by (rules_of rules) q years) h

pub returns-then-out-n : goal.returns-then-out-n
returns-then-out-n c =
    let a = c.args in
    let l = list_by (rules_of a.rules.now) (day_numbered a.bs a.number) a.years in
    let n : c.put_day_list-n.result ≡ length l = c.put_day_list-n.ensures.value ∙ zero-add _ ∙ ap length (the-list a.rules.now a.years _ _ c.day_numbered-day.ensures) in
    let s = says_short l a.out.now (omega (arith, n, c.if-out-n.true)) in
    record { result_value = s.answer; out_after = s.buffer }

pub returns : goal.returns
returns c =
    let a = c.args in
    let l = list_by (rules_of a.rules.now) (day_numbered a.bs a.number) a.years in
    let e = the-list a.rules.now a.years _ _ c.day_numbered-day.ensures in
    let n : c.put_day_list-n.result ≡ length l = c.put_day_list-n.ensures.value ∙ zero-add _ ∙ ap length e in
    let s = says_list l a.out.now _ _ (omega (arith, n, c.if-out-n.false)) (c.put_day_list.ensures.value ∙ zero-add _ ∙ ap length e) (c.put_day_list.ensures.buf_after ∙ ap (λ (z : List Pair). sets a.out.now 0 (numbers z)) e) in
    record { result_value = s.answer; out_after = s.buffer }
