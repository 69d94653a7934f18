-- The words of a buffer of bytes. Assumes nothing.
use Prim.Native.Nat.{ℕ, suc}
use native.Mathlib.Omega.{arith}
use borrow.Author.Tests.{eqb-true}
use mathlib.Core.Path.{◌≡◌, refl}
use mathlib.Core.Bool.{true, false, true≢false}
use Rattle.std.specs.Prelude.{◌==◌}
use mathlib.Core.List.{List, [], ◌∷◌}
use lib.ListN.{length}
use Rattle.text.specs.Quoted.{bytes}
use Rattle.output.specs.Octets.{octets_text}
use Rattle.replies.specs.Replies.{bytes_words}

pub bytes_none : (bs : List ℕ) → (length bs == 0) ≡ true → bytes "|" ∷ [] ≡ bytes_words bs
bytes_none [] e = refl
bytes_none (b ∷ bs) e = absurd (let z : suc (length bs) ≡ 0 = eqb-true (suc (length bs)) 0 e in let bad : ⊥ = omega arith in bad)

pub bytes_some : (bs : List ℕ) → (length bs == 0) ≡ false → bytes "|" ∷ octets_text bs ∷ [] ≡ bytes_words bs
bytes_some [] e = absurd (true≢false e)
bytes_some (b ∷ bs) e = refl
