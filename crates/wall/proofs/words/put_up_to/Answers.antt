-- `wall::words::put_up_to` meets its contract. Assumes nothing.
use mathlib.Core.Path.{◌≡◌}
use lib.ListN.{take, drop}
use Rattle.text.specs.Fronts.{up_to}
use Rattle.wall.proofs.Parts.{up_taken}
use Rattle.wall.proofs.words.put_up_to.Goals as goal

pub returns : goal.returns
returns c =
    let a = c.args in
    let e : take c.before-n.result c.behind-rest.result.now ≡ up_to a.stop a.most (drop a.from a.s.now) =
    rw (c.before-n.ensures, c.behind-rest.ensures) (up_taken a.stop a.most (drop a.from a.s.now)) in
    rw (← e) c.put.ensures
