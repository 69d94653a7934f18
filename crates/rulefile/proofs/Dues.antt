-- How many bytes the line due after some lines takes. Assumes nothing.
use Prim.Native.Nat.{ℕ, ◌%◌, ◌≤◌, ◌<◌}
use mathlib.Core.List.{[]}
use native.Mathlib.Omega.{arith}
use lib.Dec.{leb}
use borrow.Author.Tests.{leb-true}
use lib.ListN.{length, get_or}
use Rattle.paper.proofs.Tests.{T_true, at}
use Rattle.keyed.specs.Lines.{line_text}
use Rattle.keyed.proofs.Lines.{line_short}
use Rattle.rulefile.specs.Files.{keys, rule_form}

key_short : (k : ℕ) → k < 8 → length (get_or keys k []) ≤ 7
key_short k h = leb-true (length (get_or keys k [])) 7 (T_true _ (at (λ j. leb (length (get_or keys j [])) 7) 8 tt k h))

pub due_short : (i n : ℕ) → n ≤ 65535 → length (line_text (rule_form.key i) n) ≤ 32
due_short i n h = omega (arith, line_short (rule_form.key i) n h, key_short (i % 8) (omega arith))
