-- `output::Out::word` meets its contract. Assumes nothing.
use mathlib.Core.Path.{refl}
use Rattle.output.proofs.Gathering.{one_word, long_word}
use Rattle.output.proofs.Out.word.Goals as goal

pub returns-then-word-gt30 : goal.returns-then-word-gt30
returns-then-word-gt30 c = long_word c.if-word-gt30.true c.space-o.ensures.wrote c.space-o.ensures.begun_value c.join_all.ensures

pub returns : goal.returns
returns c = one_word c.if-word-gt30.false c.space-o.ensures.wrote c.put.ensures refl
