-- `output::Out::octets` meets its contract. Assumes nothing.
use mathlib.Core.Path.{refl}
use native.Mathlib.Omega.{arith}
use Rattle.output.proofs.Gathering.{one_word, long_word}
use Rattle.output.proofs.Joins.{length_octets}
use Rattle.output.proofs.Out.octets.Goals as goal

pub returns-then-list-gt-IN_ONE_PIECE : goal.returns-then-list-gt-IN_ONE_PIECE
returns-then-list-gt-IN_ONE_PIECE c = long_word (omega (arith, length_octets c.args.list.now, c.if-list-gt-IN_ONE_PIECE.true)) c.space-o.ensures.wrote c.space-o.ensures.begun_value c.join_octets.ensures

pub returns : goal.returns
returns c = one_word (omega (arith, length_octets c.args.list.now, c.if-list-gt-IN_ONE_PIECE.false)) c.space-o.ensures.wrote c.put_octets.ensures refl
