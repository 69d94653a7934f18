-- `spring::answer_both` is proved: a NEW that shares all the numbers of OLD is OLD with rows added. Assumes nothing.
use native.Mathlib.Omega.{arith}
use Prim.Native.Nat.{◌≤◌}
use lib.ListN.{length}
use Rattle.tables.specs.Shared.{shared}
use Rattle.tables.proofs.Whole.{shared_begins}
use Rattle.spring.proofs.answer_both.Goals as goal

pub write_page-requires : goal.write_page-requires
write_page-requires g c =
    let e = c.shared-n.ensures in
    let h : length c.args.old.now ≤ shared c.args.old.now c.args.new.now = omega arith in
    (c.requires.0, record { first = c.requires.1; rows = shared_begins c.args.old.now c.args.new.now h })
