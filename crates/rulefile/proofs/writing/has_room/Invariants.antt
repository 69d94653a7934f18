use Rattle.std.proofs.Common.{◌≡◌, length, ◌+◌}
use Rattle.rulefile.specs.Files.{file_text}
use Rattle.rulefile.proofs.Turns.{rest}
use Rattle.rulefile.proofs.writing.has_room.Given as goal

abbrev pub invariant-loop-i : goal.invariant-loop-i
invariant-loop-i l = length (file_text l.rules) + l.left ≡ rest l.rules l.i + l.room
