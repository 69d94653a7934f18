-- The zeros are as many as the text has bytes.
use Rattle.std.proofs.Common.{◌≡◌, ℕ, sym}
use lib.ListN.{length, replicate, length-replicate}
use Rattle.ask.proofs.no_text.Goals as goal

zeros : (n : ℕ) → n ≡ length {A = ℕ} (replicate n 0)
zeros n = sym (length-replicate {A = ℕ} n 0)

pub returns : goal.returns
returns c = zeros 524288
