use Rattle.output.proofs.Gathering.{Left}
use Rattle.replies.proofs.put_list.Given as goal

abbrev pub invariant-loop-x : goal.invariant-loop-x
invariant-loop-x g l = Left g.T.Element.word l.list l.initial.out l.initial.p l.x-index l.out l.p
