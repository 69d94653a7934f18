-- `convert::reply::put_line` meets its contract. Assumes nothing.
use mathlib.Core.Path.{sym}
use Rattle.text.proofs.Writes.{wrote_none}
use Rattle.convert.proofs.reply.put_line.Goals as goal
