-- `files::reading::store` meets its contract: what is copied there is stored there. Assumes nothing.
use Rattle.std.proofs.Common.{◌≡◌, ◌+◌, ◌-◌, arith}
use Rattle.files.proofs.Made.{copied}
use Rattle.files.proofs.reading.store.Goals as goal

pub returns : goal.returns
returns c =
    let a = c.args in
    let k : a.at + 13 - a.at ≡ 13 = omega arith in
    rw (c.copy_from_slice.ensures.after, k) (copied a.rows.now a.values a.at 13 c.requires.0 c.requires.1)
