-- `files::problems::put_problem` meets its contract. Assumes nothing.
use Rattle.text.proofs.Writes.{then}
use Rattle.files.specs.Problems.{problem_text}
use Rattle.files.proofs.problems.put_problem.Goals as goal

pub returns : goal.returns
unfolding problem_text
returns c = then c.put-a.ensures (then c.put_what-b.ensures c.put.ensures)
