use Rattle.panel.proofs.heavens.panel_tithi_starts_between.Goals as goal

pub returns : goal.returns
returns c = let walked = c.tithi_starts_between in
    record { starts = walked.ensures.buffer; found = rw (← walked.ensures.answer) c.give_starts.ensures }
