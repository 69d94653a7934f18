-- Each question is its arm's. Assumes nothing.
use mathlib.Core.Path.{refl}
use Rattle.desk.specs.Keeping.{asked_of}
use Rattle.desk.proofs.Answered.{says_kept, says_done}
use Rattle.desk.proofs.keeping.ask_kept.Goals as goal

pub returns-in-Take : goal.returns-in-Take
unfolding asked_of
returns-in-Take c = λ ready.
    let put = c.put_done.ensures in
    rw c.in-Take.is (says_done (c.take_rules.ensures ready) put.kept_value put.gathers)

pub returns-in-Append : goal.returns-in-Append
unfolding asked_of
returns-in-Append c = rw c.in-Append.is c.append.ensures

pub returns-in-DayBs : goal.returns-in-DayBs
unfolding asked_of
returns-in-DayBs c = rw c.in-DayBs.is c.day.ensures

pub returns-in-DayAd : goal.returns-in-DayAd
unfolding asked_of
returns-in-DayAd c = rw c.in-DayAd.is c.day-in-DayAd.ensures

pub returns-in-Month : goal.returns-in-Month
unfolding asked_of
returns-in-Month c = rw c.in-Month.is c.month.ensures

pub returns-in-Forget : goal.returns-in-Forget
unfolding asked_of
returns-in-Forget c = λ ready. rw c.in-Forget.is (says_kept refl (c.forget.ensures ready) c.put.ensures)

pub returns-in-Stored : goal.returns-in-Stored
unfolding asked_of
returns-in-Stored c = λ ready.
    rw c.in-Stored.is
    (says_kept refl (record { state = refl; ready = ready }) (rw c.stored.ensures at c.put_stored.ensures))
