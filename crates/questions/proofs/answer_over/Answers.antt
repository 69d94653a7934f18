-- Each tag is its arm's, or that of a reply. Assumes nothing.
use mathlib.Core.Path.{refl}
use mathlib.Core.List.{[], ◌∷◌}
use Rattle.asked.specs.Tags.{STARTS, LISTBS, LISTAD, GRID, READRULES, WRITERULES}
use Rattle.questions.specs.Questions.{one_of, words_by}
use Rattle.questions.proofs.Keys.{by_key, no_key}
use Rattle.questions.proofs.answer_over.Goals as goal

pub returns-in-20736976147 : goal.returns-in-20736976147
unfolding words_by one_of
returns-in-20736976147 c = let a = c.args in
    rw (← by_key (λ tag. words_by tag a.table a.rows.now a.rules.now a.text.now a.w) _ (STARTS ∷ []) a.w.tag c.in-20736976147.is (refl, tt))
    c.answer.ensures

pub returns-in-13040959635 : goal.returns-in-13040959635
unfolding words_by one_of
returns-in-13040959635 c = let a = c.args in
    rw (← by_key (λ tag. words_by tag a.table a.rows.now a.rules.now a.text.now a.w) _ (LISTAD ∷ LISTBS ∷ []) a.w.tag c.in-13040959635.is (refl, (refl, tt)))
    c.list.ensures

pub returns-in-1909316 : goal.returns-in-1909316
unfolding words_by one_of
returns-in-1909316 c = let a = c.args in
    rw (← by_key (λ tag. words_by tag a.table a.rows.now a.rules.now a.text.now a.w) _ (GRID ∷ []) a.w.tag c.in-1909316.is (refl, tt))
    c.month.ensures

pub returns-in-5088613135335763 : goal.returns-in-5088613135335763
unfolding words_by one_of
returns-in-5088613135335763 c = let a = c.args in
    rw (← by_key (λ tag. words_by tag a.table a.rows.now a.rules.now a.text.now a.w) _ (READRULES ∷ []) a.w.tag c.in-5088613135335763.is (refl, tt))
    c.read.ensures

pub returns-in-419438677783265619 : goal.returns-in-419438677783265619
unfolding words_by one_of
returns-in-419438677783265619 c = let a = c.args in
    rw (← by_key (λ tag. words_by tag a.table a.rows.now a.rules.now a.text.now a.w) _ (WRITERULES ∷ []) a.w.tag c.in-419438677783265619.is (refl, tt))
    c.write.ensures

pub returns-in_default : goal.returns-in_default
unfolding words_by
returns-in_default c = let rest = c.in_default.in_default-own.rest in
    rw (
      no_key (STARTS ∷ []) _ rest.0.0.0.0.1,
      no_key (LISTAD ∷ LISTBS ∷ []) _ rest.0.0.0.1,
      no_key (GRID ∷ []) _ rest.0.0.1,
      no_key (READRULES ∷ []) _ rest.0.1,
      no_key (WRITERULES ∷ []) _ rest.1,
      ← c.reply_to.ensures,
    )
    c.put.ensures
