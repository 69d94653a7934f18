-- An answer's value, where there is one. Assumes nothing.
use Rattle.std.specs.Prelude.{Err, None, Ok, Some}
use Rattle.std.specs.Result.{result_ok}
use mathlib.Core.Path.{◌≡◌}
use Rattle.paper.specs.Answers.{Answer}

pub ok_some : {A : Type 0} (a : Answer A) {x : A} → Some x ≡ result_ok a → a ≡ Ok x
ok_some (Ok y) e = cc
ok_some (Err k) e = cc

pub ok_none : {A : Type 0} (a : Answer A) {x : A} → None ≡ result_ok a → a ≡ Ok x → ⊥
ok_none (Ok y) e q = cc
ok_none (Err k) e q = cc
