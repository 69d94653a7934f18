-- Each tag is one of its arm's. Assumes nothing.
use mathlib.Core.Path.{refl, ◌∙◌}
use mathlib.Core.List.{[], ◌∷◌}
use Rattle.conversion.specs.Flat.{flat}
use Rattle.asked.specs.Tags.{CHECK, CHECKRULES, BS, AD, LEN, VALID, STEP, DAY, DATE, JD, NPT, EVENTS, RISE, SET, KALA, NISHITA, READ, HOLIDAY, SIN, COS, ASIN, ACOS, TAN}
use Rattle.questions.specs.Questions.{one_of, reply_by}
use Rattle.questions.proofs.Keys.{by_key, no_key}
use Rattle.questions.proofs.reply_to.Goals as goal

pub returns-in-16473 : goal.returns-in-16473
unfolding reply_by one_of
returns-in-16473 c = let a = c.args in
    let cal = flat a.table a.rows.now in
    c.reply.ensures ∙ by_key (λ tag. reply_by tag cal a.rules.now a.w) _ (JD ∷ DAY ∷ NPT ∷ DATE ∷ []) a.w.tag c.in-16473.is (refl, (refl, (refl, (refl, tt))))

pub returns-in-52449483 : goal.returns-in-52449483
unfolding reply_by one_of
returns-in-52449483 c = let a = c.args in
    let cal = flat a.table a.rows.now in
    c.reply-in-52449483.ensures ∙ by_key (λ tag. reply_by tag cal a.rules.now a.w) _ (AD ∷ BS ∷ LEN ∷ CHECK ∷ VALID ∷ []) a.w.tag c.in-52449483.is (refl, (refl, (refl, (refl, (refl, tt)))))

pub returns-in-78414 : goal.returns-in-78414
unfolding reply_by one_of
returns-in-78414 c = let a = c.args in
    let cal = flat a.table a.rows.now in
    c.reply-in-78414.ensures ∙ by_key (λ tag. reply_by tag cal a.rules.now a.w) _ (COS ∷ SIN ∷ TAN ∷ ACOS ∷ ASIN ∷ []) a.w.tag c.in-78414.is (refl, (refl, (refl, (refl, (refl, tt)))))

pub returns-in-5739177235 : goal.returns-in-5739177235
unfolding reply_by one_of
returns-in-5739177235 c = let a = c.args in
    let cal = flat a.table a.rows.now in
    c.reply-in-5739177235.ensures ∙ by_key (λ tag. reply_by tag cal a.rules.now a.w) _ (SET ∷ KALA ∷ READ ∷ RISE ∷ EVENTS ∷ NISHITA ∷ []) a.w.tag c.in-5739177235.is (refl, (refl, (refl, (refl, (refl, (refl, tt))))))

pub returns-in-56317203851821395 : goal.returns-in-56317203851821395
unfolding reply_by one_of
returns-in-56317203851821395 c = let a = c.args in
    let cal = flat a.table a.rows.now in
    c.check.ensures ∙ by_key (λ tag. reply_by tag cal a.rules.now a.w) _ (CHECKRULES ∷ []) a.w.tag c.in-56317203851821395.is (refl, tt)

pub returns-in-5062992 : goal.returns-in-5062992
unfolding reply_by one_of
returns-in-5062992 c = let a = c.args in
    let cal = flat a.table a.rows.now in
    c.step.ensures ∙ by_key (λ tag. reply_by tag cal a.rules.now a.w) _ (STEP ∷ []) a.w.tag c.in-5062992.is (refl, tt)

pub returns-in-566065643609 : goal.returns-in-566065643609
unfolding reply_by one_of
returns-in-566065643609 c = let a = c.args in
    let cal = flat a.table a.rows.now in
    c.reply-in-566065643609.ensures ∙ by_key (λ tag. reply_by tag cal a.rules.now a.w) _ (HOLIDAY ∷ []) a.w.tag c.in-566065643609.is (refl, tt)

pub returns-in_default : goal.returns-in_default
unfolding reply_by
returns-in_default c = let rest = c.in_default.in_default-own.rest in
    rw (
      no_key (JD ∷ DAY ∷ NPT ∷ DATE ∷ []) _ rest.0.0.0.0.0.0.1,
      no_key (AD ∷ BS ∷ LEN ∷ CHECK ∷ VALID ∷ []) _ rest.0.0.0.0.0.1,
      no_key (COS ∷ SIN ∷ TAN ∷ ACOS ∷ ASIN ∷ []) _ rest.0.0.0.0.1,
      no_key (SET ∷ KALA ∷ READ ∷ RISE ∷ EVENTS ∷ NISHITA ∷ []) _ rest.0.0.0.1,
      no_key (CHECKRULES ∷ []) _ rest.0.0.1,
      no_key (STEP ∷ []) _ rest.0.1,
      no_key (HOLIDAY ∷ []) _ rest.1,
    )
    c.reply-in_default.ensures
