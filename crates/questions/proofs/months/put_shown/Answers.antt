-- The month, then both buffers. Assumes nothing.
use Rattle.output.proofs.Gathering.{then}
use Rattle.questions.proofs.months.put_shown.Goals as goal

pub returns : goal.returns
returns c =
    then (then c.put_month_words-told.ensures c.put_list-shown.ensures) c.put_list.ensures
