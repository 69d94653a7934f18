-- The claims of specs/Claims.antt. Assumes nothing.
use Rattle.utf8.specs.Claims.{Exact, Fronts}
use Rattle.utf8.proofs.Encodes.{encoded_utf8, utf8_encoded}
use Rattle.utf8.proofs.Cuts.{front_part, front_few, front_whole, front_utf8, front_short, front_plain}

pub exact : Exact
exact = record { encodes = encoded_utf8; decodes = utf8_encoded }

pub fronts : Fronts
fronts = record {
  part = front_part;
  few = front_few;
  whole = front_whole;
  stays = front_utf8;
  short = front_short;
  plain = front_plain;
}
