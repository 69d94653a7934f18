use Rattle.std.proofs.Common.{◌≡◌, ap, ◌∙◌, arith}
use lib.Ieee.{to_unsigned}
use Rattle.paper.specs.Floats.{floor_of}
use Rattle.gregorian.specs.Instants.{local_day}
use Rattle.gregorian.proofs.Instants
use Rattle.gregorian.proofs.whole_day.Goals as goal
use Rattle.gregorian.proofs.whole_day.Goals.{After-truncating_f64_to_u64}

cut : (c : After-truncating_f64_to_u64) → c.truncating_f64_to_u64.result ≡ floor_of (local_day c.args.x)
cut c =
    c.truncating_f64_to_u64.ensures
    ∙ ap (to_unsigned 64) c.local_day.ensures
    ∙ Instants.local_cut c.args.x c.requires

pub truncating_f64_to_u64-requires : goal.truncating_f64_to_u64-requires
truncating_f64_to_u64-requires c =
    let x = c.args.x in
    rw c.local_day.ensures (record { lower_bound = Instants.local_above x c.requires; upper_bound = Instants.local_below x c.requires })

pub overflow_cast-result : goal.overflow_cast-result
overflow_cast-result c =
    let x = c.args.x in
    let e : c.truncating_f64_to_u64.result ≡ floor_of (local_day x) = cut c in
    let b = (Instants.local x c.requires).1 in
    omega arith

pub returns : goal.returns
returns c = cut c
