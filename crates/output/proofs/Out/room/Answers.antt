-- `output::Out::room` meets its contract. Assumes nothing.
use mathlib.Core.Path.{◌∙◌}
use native.Mathlib.Omega.{arith}
use Rattle.output.proofs.Gathering.{room_there, room_front}
use borrow.Author.Rules.{rules}
use Rattle.output.proofs.Out.room.Goals as goal

pub returns-then-buffer-self : goal.returns-then-buffer-self
returns-then-buffer-self c = record {
  bytes_in_bounds = search rules;
  at_value = (c.flush.ensures.0 ∙ room_front c.args.bytes c.args.buffer.now c.args.self.at (omega arith), search rules);
}

pub returns-then-buffer-self-2 : goal.returns-then-buffer-self-2
returns-then-buffer-self-2 c = record {
  bytes_in_bounds = search rules;
  at_value = (c.flush-then-buffer-self-2.ensures.0 ∙ room_front c.args.bytes c.args.buffer.now c.args.self.at (omega arith), search rules);
}

pub returns : goal.returns
returns c = record {
  bytes_in_bounds = search rules;
  at_value = (room_there c.args.bytes c.args.buffer.now c.args.self.at (omega arith), search rules);
}
